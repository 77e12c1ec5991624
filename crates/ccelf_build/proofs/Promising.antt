-- What the top call promises, of what the words are answered and how that ends.
use Rattle.std.proofs.Common.{◌≡◌, ◌∷◌, ◌++◌, [], ℕ, List, Some, map, refl, inl, inr, sym, subst}
use Rattle.cc_base.specs.Seen.{SinkSeen}
use Rattle.command_words.specs.Commands.{Request, Compile, Link, Run, Show, Exec, Mean, Fits, FitsNone, AreNames, object_name}
use Rattle.commands.specs.declared.answer.Answer.{Answer}
use Rattle.commands.specs.declared.answer.Answer.TheVariants as answer
use Rattle.commands.specs.declared.answer.Status.{Status}
use Rattle.commands.specs.declared.answer.Status.TheVariants as status
use Rattle.commands.specs.Answers.{status_of}
use Rattle.commands.specs.Doing.{Outside, outside, Says}
use Rattle.commands.specs.Does.{does}
use Rattle.ccelf_build.specs.Contents.{Contents}
use Rattle.ccelf_build.specs.Ends.{Ends}
use Rattle.ccelf_build.specs.Kept.{Kept, names_put}
use Rattle.ccelf_build.specs.Laws.{Laws}
use Rattle.ccelf_build.specs.Tells.{Tells}
use Rattle.ccelf_build.specs.Told.{compile_told, link_told, run_told, show_told, exec_told}
use Rattle.ccelf_build.specs.Meant.{mean_told}
use Rattle.ccelf_build.specs.Promise.{World, Asked, Promise}
use Rattle.ccelf_build.proofs.Compiling.{compile_row}
use Rattle.ccelf_build.proofs.Executing.{exec_row}
use Rattle.ccelf_build.proofs.Causing.{answered, caused}
use Rattle.ccelf_build.proofs.Forcing.{forced}
use Rattle.ccelf_build.proofs.Keeping.{kept, none_kept}
use Rattle.ccelf_build.proofs.Linking.{link_row}
use Rattle.ccelf_build.proofs.Meaning.{mean_row}
use Rattle.ccelf_build.proofs.OneMeaning.{mean_one}
use Rattle.ccelf_build.proofs.OneReason.{compile_one, show_one, link_one, run_one}
use Rattle.ccelf_build.proofs.Reasons.{comes_by, compile_why, show_why, link_why, run_why, mean_why, exec_comes}
use Rattle.ccelf_build.proofs.Running.{run_row}
use Rattle.ccelf_build.proofs.Showing.{show_row}
use Rattle.ccelf_build.proofs.Statuses.{statuses}
use Rattle.ccelf_build.proofs.Units.{nothing_done}
use Rattle.ccelf_build.proofs.Untouching.{left_alone}

words_only : (told : Answer) → status_of told ≡ status.Words → told ≡ answer.Words
words_only answer.Words e = refl
words_only _ e = cc

-- a command whose words were not read has put nothing
asked_kept : (r : Request) (old new : Outside) (told : Answer) → Asked (does r) old told new → Kept (names_put r) old.files new.files
asked_kept r old new told (inl h) = none_kept (names_put r) old.files new.files (λ i. (h.1 i).files.told)
asked_kept r old new told (inr h) = kept r old new told h

module _ (laws : Laws) (files : Contents) (old : Outside) (there : old.files.told ≡ Some files) where
  asked_compile : (unit object : List ℕ) (new : Outside) (told : Answer) → Asked (does (Compile unit object)) old told new → compile_told unit object files old told new
  asked_compile unit object new told (inl h) = let P : Answer → Type 0 = λ a. compile_told unit object files old a new in subst P (sym h.0) (inl (nothing_done files old new there h.1))
  asked_compile unit object new told (inr h) = compile_row unit object files old there new told h

  asked_link : (image : List ℕ) (objects : List (List ℕ)) (new : Outside) (told : Answer) → Asked (does (Link image objects)) old told new → link_told image objects files old told new
  asked_link image objects new told (inl h) = let P : Answer → Type 0 = λ a. link_told image objects files old a new in subst P (sym h.0) (nothing_done files old new there h.1)
  asked_link image objects new told (inr h) = link_row laws image objects files old there new told h

  asked_show : (unit : List ℕ) (new : Outside) (told : Answer) → Asked (does (Show unit)) old told new → show_told unit files old told new
  asked_show unit new told (inl h) = let P : Answer → Type 0 = λ a. show_told unit files old a new in subst P (sym h.0) (inl (nothing_done files old new there h.1))
  asked_show unit new told (inr h) = show_row unit files old there new told h

  module _ (input : List ℕ) (known : old.input.told ≡ Some input) where
    asked_run : (steps : ℕ) (image : List ℕ) (new : Outside) (told : Answer) → Asked (does (Run steps image)) old told new → run_told steps image files input old told new
    asked_run steps image new told (inl h) = let P : Answer → Type 0 = λ a. run_told steps image files input old a new in subst P (sym h.0) (inl (nothing_done files old new there h.1))
    asked_run steps image new told (inr h) = run_row steps image files input old there known new told h

    asked_mean : (steps : ℕ) (units : List (List ℕ)) (new : Outside) (told : Answer) → Asked (does (Mean steps units)) old told new → mean_told steps units files input old told new
    asked_mean steps units new told (inl h) = let P : Answer → Type 0 = λ a. mean_told steps units files input old a new in subst P (sym h.0) (inl (nothing_done files old new there h.1))
    asked_mean steps units new told (inr h) = mean_row steps units files input old there known new told h

    asked_exec : (steps : ℕ) (image : List ℕ) (units : List (List ℕ)) → AreNames (image ∷ units ++ map object_name units) → (new : Outside) (told : Answer) → Asked (does (Exec steps image units)) old told new
        → exec_told steps image units files input old told new
    asked_exec steps image units names new told (inl h) =
        let P : Answer → Type 0 = λ a. exec_told steps image units files input old a new in
        subst P (sym h.0) (inl (record { done = []; left = units; order = refl; all = []; are = tt; put = nothing_done files old new there h.1 }))
    asked_exec steps image units names new told (inr h) = exec_row laws steps image units files input old there known names new told h

pub promised : Laws → (words : List (List ℕ)) (old new : World) (result : Status) (told : Answer) (out : SinkSeen)
    → ((r : Request) → Fits words r → Asked (does r) (outside old.files old.input old.output) told (outside new.files new.input out))
    → (FitsNone words → Asked (Says answer.Words) (outside old.files old.input old.output) told (outside new.files new.input out))
    → (told ≡ answer.Words → FitsNone words)
    → Tells (outside old.files old.input old.output) told (outside new.files new.input out)
    → Ends told out old.report result new.output new.report
    → Promise words old result new
promised laws words old new result told out fits none refused tells ends =
    let before = outside old.files old.input old.output in
    let behind = outside new.files new.input out in
    record {
      fits = λ r f. record { answer = told; output = out; done = fits r f; ends = ends };
      none = λ n. record { answer = told; output = out; done = none n; ends = ends };
      refused = λ e. refused (words_only told (answered told out old.report new.output new.report result status.Words ends e (λ x. cc) (λ x. cc)));
      counts = forced old new told out result tells ends;
      causes = caused old new told out result tells ends;
      kept = λ r f. asked_kept r before behind told (fits r f);
      alone = λ r f. left_alone r before behind old.report new.output new.report told result (fits r f) ends;
      statuses = λ r f. statuses laws r before behind told out old.report new.output new.report result (fits r f) ends;
      compile = λ unit object files f there. record { answer = told; output = out; done = asked_compile laws files before there unit object behind told (fits (Compile unit object) f); ends = ends };
      link = λ image objects files f there. record { answer = told; output = out; done = asked_link laws files before there image objects behind told (fits (Link image objects) f); ends = ends };
      run = λ steps image files input f there known. record { answer = told; output = out; done = asked_run laws files before there input known steps image behind told (fits (Run steps image) f); ends = ends };
      show = λ unit files f there. record { answer = told; output = out; done = asked_show laws files before there unit behind told (fits (Show unit) f); ends = ends };
      exec = λ steps image units files input f there known. record {
        answer = told;
        output = out;
        done = asked_exec laws files before there input known steps image units f.names behind told (fits (Exec steps image units) f);
        ends = ends;
      };
      mean = λ steps units files input f there known. record { answer = told; output = out; done = asked_mean laws files before there input known steps units behind told (fits (Mean steps units) f); ends = ends };
      compile_comes = λ unit object files f there.
          comes_by _ (compile_one laws unit files) told out old.report new.output new.report result (compile_why unit object files before behind told (asked_compile laws files before there unit object behind told (fits (Compile unit object) f))) ends;
      link_comes = λ image objects files f there.
          comes_by _ (link_one laws objects files) told out old.report new.output new.report result (link_why image objects files before behind told (asked_link laws files before there image objects behind told (fits (Link image objects) f))) ends;
      run_comes = λ steps image files input f there known.
          comes_by _ (run_one laws steps image files input) told out old.report new.output new.report result
          (run_why steps image files input before behind told (asked_run laws files before there input known steps image behind told (fits (Run steps image) f))) ends;
      show_comes = λ unit files f there.
          comes_by _ (show_one laws unit files) told out old.report new.output new.report result (show_why unit files before behind told (asked_show laws files before there unit behind told (fits (Show unit) f))) ends;
      exec_comes = λ steps image units files input f there known.
          exec_comes laws steps units files input image before behind told out old.report new.output new.report result (asked_exec laws files before there input known steps image units f.names behind told (fits (Exec steps image units) f)) ends;
      mean_comes = λ steps units files input f there known.
          comes_by _ (mean_one laws steps units files input) told out old.report new.output new.report result
          (mean_why steps units files input before behind told (asked_mean laws files before there input known steps units behind told (fits (Mean steps units) f))) ends;
    }
