-- The group on the bench as the code holds it: what it shows of the script's desk, opened, and with a frame more.
use Rattle.std.specs.Prelude.{cond, List, [], ◌∷◌, ◌++◌, ℕ, zero, suc, ◌+◌, ◌-◌, ◌<◌, ◌≤◌, get_or, set, take, replicate, Ok, Err}
use Rattle.rules.specs.Maps.{between}
use Rattle.rules.specs.State.{State, closed}
use Rattle.answers.specs.Answers.{Answered}
use Rattle.unit.specs.declared.Unit.{Unit}
use Rattle.unit.specs.View.{view}
use Rattle.unit.specs.Exact.{opened_of}
use Rattle.script.specs.Desk as script
use Rattle.bench.specs.declared.desk.Frame.{Frame}
use Rattle.bench.specs.declared.desk.Desk.{Desk}

-- ---- what it shows

-- what the code reads past the third unit: it never does
abbrev pub no_unit : Unit
no_unit =
    record {
      core = record {
        me = 0;
        n = 0;
        w = 0;
        cid = 0;
        seq = 0;
        req = [];
        heard = [];
        buf = [];
        al = [];
        kept = [];
        seqs = [];
        lens = [];
        order = record { pal = []; list = []; confirmed = 0; ordered = 0; waiting = 0 };
      };
      acks = [];
      bytes = [];
      frames = [];
    }

abbrev pub unit_at : Desk → ℕ → Unit
unit_at d u = get_or d.units (u - 1) no_unit

-- there are three; what is no unit is closed
unfoldable pub units_of : List Unit → ℕ → State
units_of l u = cond (between 1 3 u) (view (get_or l (u - 1) no_unit)) closed

-- what the code reads past the last frame: it never does
abbrev pub no_frame : Frame
no_frame = record { bytes = []; len = 0 }

-- the frame in slot i
abbrev pub frame_in : List Frame → ℕ → List ℕ
frame_in frames i = take (get_or frames i no_frame).len (get_or frames i no_frame).bytes

-- the first frames, so many of them
unfoldable pub frames_in : List Frame → ℕ → List (List ℕ)
frames_in frames zero = []
frames_in frames (suc i) = frames_in frames i ++ (frame_in frames i ∷ [])

abbrev pub desk_of : Desk → script.Desk
desk_of d = record { n = d.n; units = units_of d.units; frames = frames_in d.frames d.count }

-- at most three units and 64 frames, and each frame within its slot
pub record Fits (d : Desk) : Type 0 where
  pub units : d.n ≤ 3
  pub frames : d.count ≤ 64
  pub lengths : (i : ℕ) → i < d.count → (get_or d.frames i no_frame).len ≤ 117

-- ---- opened

-- unit `me`, with CID 1 and first numbers 1
unfoldable pub started_unit : ℕ → ℕ → ℕ → Unit
started_unit me n w = (opened_of (record { me = me; n = n; w = w; cid = 1; first = replicate 8 1 })).0

unfoldable pub started_desk : ℕ → ℕ → Desk
started_desk n w =
    record {
      n = n;
      units = started_unit 1 n w ∷ started_unit 2 n w ∷ started_unit 3 n w ∷ [];
      frames = replicate 64 (record { bytes = replicate 117 0; len = 0 });
      count = 0;
    }

-- ---- with another unit, and with a frame more

abbrev pub with_unit : Desk → ℕ → Unit → Desk
with_unit d u x = record { n = d.n; units = set d.units (u - 1) x; frames = d.frames; count = d.count }

abbrev pub with_frame : Desk → Frame → Desk
with_frame d f = record { n = d.n; units = d.units; frames = set d.frames d.count f; count = d.count + 1 }

-- where a call was done, what it wrote is the next frame: so many of these bytes
unfoldable pub kept_in : Desk → Answered ℕ → List ℕ → Desk
kept_in d (Ok len) bytes = with_frame d (record { bytes = bytes; len = len })
kept_in d (Err r) bytes = d
