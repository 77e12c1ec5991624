-- The temporaries that code takes, of its sizes.
use Rattle.std.specs.Prelude.{max}
use Rattle.core_lang.specs.Bounds.{Size}
use Rattle.rtl_gen.specs.declared.extents.Extent.{Extent}

abbrev pub extent_of : Size → Extent
extent_of s = record { reach = s.reach; depth = s.depth }

abbrev pub both : Extent → Extent → Extent
both x y = record { reach = max x.reach y.reach; depth = max x.depth y.depth }
