-- A line that names a unit or a frame that does not exist does nothing.
use mathlib.Core.Bool.{true, false, ◌&&◌}
use mathlib.Core.List.{List}
use mathlib.Core.Path.{◌≡◌, refl, sym, ap}
use Prim.Native.Nat.{ℕ}
use native.Mathlib.Omega.{arith}
use Rattle.std.specs.Prelude.{Some}
use Rattle.rules.specs.Maps.{between}
use Rattle.rules.proofs.MapsLaws.{and_left, and_right, between-low, between-high}
use Rattle.script.specs.Items.{Command, groups, unreadable}
use Rattle.script.specs.Desk.{refused, act}
use Rattle.script.specs.Shown.{said}
use Rattle.script.specs.declared.line.Line.{Line}
use Rattle.script.specs.declared.line.Line.TheVariants.{Group, Send, Arrive, Request, Take}
use Rattle.bench.specs.declared.desk.Desk.{Desk}
use Rattle.bench.specs.Desk.{desk_of, Fits}
use Rattle.bench.specs.declared.reply.Reply.TheVariants.{Unknown}
use Rattle.bench.specs.Commands.{reply_of, ignored, acted_of, names_known, Named, CanHear, Acts}
use Rattle.bench.proofs.DeskLaws.{length-frames}

-- nothing is done, here and on the script's desk
pub record Ignores (d : Desk) (c : Command) : Type 0 where
  pub here : acted_of d c ≡ ignored d
  pub there : act (desk_of d) c ≡ refused (desk_of d)

module _ (d : Desk) where
  pub names-none : (l : Line) (text : List ℕ) → names_known d.n d.count l ≡ false → Ignores d (said (Some l) text)
  unfolding names_known acted_of
  names-none (Group g) text e = record { here = refl; there = refl }
  names-none (Send u len) text e = record { here = rw e; there = rw e }
  names-none (Arrive u f) text e = record { here = rw e; there = rw (length-frames d.frames d.count, e) }
  names-none (Request u k) text e = record { here = rw e; there = rw e }
  names-none (Take u) text e = record { here = rw e; there = rw e }

  pub groups_none : (n w : ℕ) → Ignores d (groups n w)
  unfolding acted_of
  groups_none n w = record { here = refl; there = refl }

  -- nothing was there to be called
  pub ignored-acts : {c : Command} → Fits d → Ignores d c → Acts d c d Unknown
  unfolding reply_of
  ignored-acts f i =
      record {
        next = ap (λ x. x.desk) (sym i.here);
        reply = ap (λ x. x.reply) (sym i.here);
        means = rw (i.here, i.there);
        fits = f;
        more = omega arith;
      }

  pub unreadable_none : Ignores d unreadable
  unfolding acted_of
  unreadable_none = record { here = refl; there = refl }

  -- the unit, and the frame, that a line names
  module _ (fits : Fits d) where
    pub unit-named : (u : ℕ) → between 1 d.n u ≡ true → Named d u
    unit-named u e = record { fits = fits; low = between-low 1 d.n u e; high = between-high 1 d.n u e }

    pub can-hear : (u f : ℕ) → between 1 d.n u && between 1 d.count f ≡ true → CanHear d u f
    can-hear u f e =
        let frame = and_right (between 1 d.n u) (between 1 d.count f) e in
        record {
          unit = unit-named u (and_left (between 1 d.n u) (between 1 d.count f) e);
          low = between-low 1 d.count f frame;
          high = between-high 1 d.count f frame;
        }
