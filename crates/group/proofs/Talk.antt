-- A run of three units in which a frame is lost, asked for and resent, one comes early, and each unit takes a message of each.
use mathlib.Core.List.{List, [], ◌∷◌, map}
use mathlib.Core.Path.{◌≡◌, refl}
use Prim.Native.Nat.{ℕ}
use lib.ListN.{replicate}
use Rattle.rules.specs.Calls.{call}
use Rattle.group.specs.Runs.{Group, fresh, Run}
use Rattle.group.proofs.Scripts.{Line, ◌says◌, ◌hears◌, ◌asks◌, ◌copies◌, takes, play, answers, script-run, computing}

pub start : Group
start = fresh 3 2 7 (λ k. 1)

pub script : List Line
script =
    -- the copy of unit 1's first frame for unit 3 is lost; unit 2's frame shows unit 3 that it is missing, and comes early
    1 says (97 ∷ []) ∷ 2 hears 1 ∷ 2 says (98 ∷ []) ∷ 3 hears 2
    -- unit 3 asks, unit 1 resends, and then both frames are accepted
    ∷ 3 asks 1 ∷ 1 hears 3 ∷ 1 copies 1 ∷ 3 hears 4 ∷ 3 hears 2
    ∷ 3 says (99 ∷ []) ∷ 1 hears 2 ∷ 1 hears 5 ∷ 2 hears 5
    -- two rounds more
    ∷ 1 says [] ∷ 2 hears 6 ∷ 3 hears 6 ∷ 2 says [] ∷ 1 hears 7 ∷ 3 hears 7 ∷ 3 says [] ∷ 1 hears 8 ∷ 2 hears 8
    ∷ 1 says [] ∷ 2 hears 9 ∷ 3 hears 9 ∷ 2 says [] ∷ 1 hears 10 ∷ 3 hears 10 ∷ 3 says [] ∷ 1 hears 11 ∷ 2 hears 11
    ∷ takes 1 ∷ takes 1 ∷ takes 1 ∷ takes 2 ∷ takes 2 ∷ takes 2 ∷ takes 3 ∷ takes 3 ∷ takes 3
    ∷ []

pub end : Group
end = play call start script

pub took : ℕ → List (List ℕ)
took i = map (λ p. p.src ∷ p.seq ∷ p.text) (end.took i)

-- sender, number and data of what each unit took
pub abc : List (List ℕ)
abc = (1 ∷ 1 ∷ 97 ∷ []) ∷ (2 ∷ 1 ∷ 98 ∷ []) ∷ (3 ∷ 1 ∷ 99 ∷ []) ∷ []

pub record Talks : Type 0 where
  pub run : Run call 3 2 7 (λ k. 1) end
  pub early : answers call start script ≡ 0 ∷ 0 ∷ 0 ∷ 10 ∷ replicate 36 0
  pub taken : took 1 ∷ took 2 ∷ took 3 ∷ [] ≡ abc ∷ abc ∷ abc ∷ []

pub talk : Talks
unfolding computing start script end took abc
talk =
    record {
      run = script-run call 3 2 7 (λ k. 1) script refl refl;
      early = refl;
      taken = refl;
    }
