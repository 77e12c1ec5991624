-- What compile comes to, where the files tell their bytes.
use Rattle.std.proofs.Common.{◌∷◌, [], ℕ, List, length, inl, inr, ap, sym, subst}
use Rattle.commands.specs.declared.answer.Answer.{Answer}
use Rattle.commands.specs.declared.answer.Answer.TheVariants as answer
use Rattle.commands.specs.Doing.{Outside}
use Rattle.commands.specs.Does.{compile_does}
use Rattle.ccelf_build.specs.Contents.{Contents, DidPut}
use Rattle.ccelf_build.specs.Told.{compile_told}
use Rattle.ccelf_build.proofs.Units.{Tells, UnitRow, unit_row, unit_done, put_of}

module _ (unit object : List ℕ) (files : Contents) (old : Outside) (there : Tells files old) where
  from_unit : (new : Outside) (e : Answer) → UnitRow files unit object old e new → compile_told unit object files old e new
  from_unit new (answer.Missing which) h = h
  from_unit new (answer.LimitFile which) h = h
  from_unit new (answer.LimitText which) h = h
  from_unit new (answer.LimitDeep which at) h = h
  from_unit new (answer.Syntax which kind at) h = h
  from_unit new (answer.Typing which broken at) h = h
  from_unit new (answer.LimitUnit which limit at) h = h
  from_unit new (answer.LimitForm which) h = h
  from_unit new answer.ReadFault h = h
  from_unit new answer.WriteFault h = h
  from_unit new answer.Memory h = h
  from_unit new _ h = absurd h

  pub compile_row : (new : Outside) (e : Answer) → compile_does unit object old e new → compile_told unit object files old e new
  compile_row new e (inl h) = from_unit new e (unit_row files unit object old there new e h)
  compile_row new e (inr h) =
      let d = unit_done files unit object old there h.value h.between h.went in
      let P : Answer → Type 0 = λ a. compile_told unit object files old a new in
      let Q : Outside → Type 0 = λ end. DidPut files (put_of object d.0 ∷ []) old end in
      subst P (sym h.goes_on.0) (d.0, d.1, ap length d.2, subst Q (sym h.goes_on.1) d.3)
