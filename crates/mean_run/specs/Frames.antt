-- What the active calls stand for.
use Rattle.std.specs.Prelude.{List, [], ◌∷◌, ◌++◌}
use Rattle.clight_sem.specs.States.{Frame as FrameSeen}
use Rattle.mean_run.specs.Lefts.{left_in}
use Rattle.mean_run.specs.declared.frame.Frame.{Frame}

-- an active call
abbrev pub frame_of : Frame → FrameSeen
frame_of f = record { unit = f.unit; function = f.function.now; activation = f.activation; temporaries = f.temporaries; left = left_in f.left; result = f.result }

-- the calls below the newest one, of which the last in the list is the newest
abbrev pub frames_of : List Frame → List FrameSeen
frames_of [] = []
frames_of (f ∷ fs) = frames_of fs ++ frame_of f ∷ []
