-- Demand 3 holds in every run of a group, and there the precedence test is causality.
use Prim.Native.Nat.{ℕ, ◌-◌}
use native.Mathlib.Nat.{le_refl, le_trans}
use mathlib.Core.Path.{refl}
use lib.ListN.{get_or}
use Rattle.rules.specs.Calls.{call}
use Rattle.group.specs.Runs.{Index, Group, after, Run, opens, then}
use Rattle.group.specs.Causality.{sent_in}
use Rattle.group.specs.Demand.{confirmed_at, Demand3, PrecedenceIsCausality, Promise}
use Rattle.group.proofs.Course.{Course, nothing}
use Rattle.group.proofs.Lists.{part, Lists}
use Rattle.group.proofs.Good.{top_of, reqs, Fair, Seat, Good}
use Rattle.group.proofs.Opening.{good_start}
use Rattle.group.proofs.Agrees.{Agrees, agrees-before}
use Rattle.group.proofs.EachCall.{call-good}
use Rattle.group.proofs.Confirmed.{done-firsts, done-units, done-once}
use Rattle.group.proofs.Causes.{ordered-causes, precedence}
use Rattle.group.proofs.Reach.{preacked-too, few, keeps}

-- every state of a run is good
run-good : (c : Course) → Index c.n 1 → (g : Group) → Run call c.n c.w c.cid c.first g → Agrees c g → Good c g
unfolding after
run-good c one g (opens h) agrees = good_start c h one
run-good c one g (then {g = b} r i inn cl p) agrees = call-good (run-good c one b r (agrees-before c b i _ _ _ _ agrees)) i inn cl p agrees

module _ (n w cid : ℕ) (first : ℕ → ℕ) (g : Group) (run : Run call n w cid first g) where
  -- the course of a run that ends in g
  abbrev c : Course
  c = record { n = n; w = w; cid = cid; first = first; msg = λ j s. get_or (sent_in (g.log j)) (s - first j) nothing }

  -- where there is a unit
  good : (i : ℕ) → Index n i → Good c g
  good i inn = run-good c (le_refl 1, le_trans inn.0 inn.1) g run (λ j s low high. refl)

  fair : (i : ℕ) → Index n i → Fair c (top_of c g) (reqs g)
  fair i inn = (good i inn).fair

  seat : (i : ℕ) → Index n i → Seat c (top_of c g) (reqs g) i (g.unit i) (g.log i) (g.took i)
  seat i inn = (good i inn).members i inn

  lists : (i : ℕ) (inn : Index n i) → Lists c (top_of c g) (seat i inn).tidy.settled.pre (confirmed_at g i) (part (g.unit i))
  lists i inn = (seat i inn).tidy.settled.lists

  demand-3 : Demand3 n w g
  demand-3 =
      record {
        first_so_many = λ i k inn kn. done-firsts (lists i inn) (fair i inn).spoken k kn (g.log k) (λ s low high. refl) refl;
        of_units = λ i inn. done-units (lists i inn);
        each_once = λ i inn. done-once (lists i inn);
        in_causal_order = λ i inn.
            ordered-causes (fair i inn).spoken (fair i inn).closed g (λ l ln. (seat l ln).logs) (confirmed_at g i) (g.unit i).ordered
            (lists i inn).ordered;
        preacked_by_all = λ i j inn jn.
            preacked-too (fair i inn).spoken (fair i inn).numbers (seat i inn).tidy (seat j jn).tidy j jn refl;
        few_wait = λ i k inn kn.
            few (fair i inn).spoken (fair i inn).numbers (fair i inn).closed (fair i inn).window (seat i inn).tidy.size (seat i inn).told
            (seat i inn).tidy.settled i inn refl k kn;
        sender_keeps = λ i j inn jn. keeps i j inn jn (seat i inn).logs (g.unit j) (seat j jn);
      }

  precedence-is-causality : PrecedenceIsCausality n g
  precedence-is-causality j k jn kn a b ma mb p q pa qb =
      precedence (fair j jn).spoken (fair j jn).closed g (λ l ln. (seat l ln).logs) p q a b pa qb j k jn kn ma mb

pub promise : Promise
promise n w cid first g run = (demand-3 n w cid first g run, precedence-is-causality n w cid first g run)
