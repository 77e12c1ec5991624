-- What a scene of the program stands for.
use Rattle.clight_sem.specs.Values.{Scene as Seen}
use Rattle.mean_run.specs.declared.scene.Scene.{Scene}

abbrev pub seen : Scene → Seen
seen s = record { memory = s.memory.now; temporaries = s.temporaries.now; objects = s.objects.now; activation = s.activation }
