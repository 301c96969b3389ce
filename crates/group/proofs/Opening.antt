-- A group opened alike is in a good state.
use mathlib.Core.List.{[]}
use mathlib.Core.Path.{◌≡◌, refl, sym, ap, subst, ◌∙◌}
use Prim.Native.Nat.{ℕ}
use native.Mathlib.Omega.{arith}
use native.Mathlib.Nat.{le_trans}
use Rattle.rules.specs.Maps.{least}
use Rattle.rules.specs.State.{State, from, opened}
use Rattle.rules.specs.Calls.{Opened, opening}
use Rattle.rules.proofs.MapsLaws.{units_in}
use Rattle.rules.proofs.CallCases.{open-cases}
use Rattle.rules.proofs.OpeningLaws.{Opens, passed-opens}
use Rattle.group.specs.Runs.{Index, Group, fresh}
use Rattle.group.proofs.Course.{Course, Sent, said-first}
use Rattle.group.proofs.Numbers.{Numbers}
use Rattle.group.proofs.Columns.{column-first, says_first, row-le, row-glb}
use Rattle.group.proofs.Lists.{part, Lists}
use Rattle.group.proofs.Settle.{core}
use Rattle.group.proofs.Members.{Member}
use Rattle.group.proofs.Good.{top_of, reqs, Good}

-- what answer 0 to an opening says of the unit u
record Opening (i n w cid : ℕ) (first : ℕ → ℕ) (u : State) : Type 0 where
  pub opens : Opens i n w cid first
  pub unit : u ≡ opened i n w cid first

open-says : (i n w cid : ℕ) (first : ℕ → ℕ) → (opening i n w cid first).answer ≡ 0 → Opening i n w cid first (opening i n w cid first).unit
open-says i n w cid first =
    open-cases (λ (o : Opened). o.answer ≡ 0 → Opening i n w cid first o.unit) i n w cid first (λ e. absurd (omega arith))
    (λ p e. record { opens = passed-opens i n w cid first p; unit = refl })

module _ (c : Course) (opens : (i : ℕ) → Index c.n i → (opening i c.n c.w c.cid c.first).answer ≡ 0) where
  abbrev start : Group
  start = fresh c.n c.w c.cid c.first

  said-open : (i : ℕ) (inn : Index c.n i) → Opening i c.n c.w c.cid c.first (start.unit i)
  unfolding fresh
  said-open i inn = open-says i c.n c.w c.cid c.first (opens i inn)

  req-first : (i k : ℕ) → Index c.n i → Index c.n k → reqs start i k ≡ c.first k
  unfolding opened
  req-first i k inn kn = ap (λ (u : State). u.req k) (said-open i inn).unit ∙ units_in c.n c.first k kn.0 kn.1

  -- nothing was sent
  none : {j s : ℕ} → Sent c (top_of c start) j s → ⊥
  unfolding fresh
  none h = omega arith

  start-numbers : Numbers c (top_of c start) (reqs start)
  unfolding fresh
  start-numbers =
      record {
        low = λ i k inn kn. omega (arith, req-first i k inn kn);
        high = λ i k inn kn. omega (arith, req-first i k inn kn);
        past = λ j s k h kn. absurd (none h);
      }

  module _ (i : ℕ) (inn : Index c.n i) where
    abbrev unit : State
    unit = opened i c.n c.w c.cid c.first

    -- every row holds the first number of its unit
    rows : (k j : ℕ) → Index c.n k → Index c.n j → (unit.al k j ≡ c.first k) × (unit.pal k j ≡ c.first k)
    unfolding opened
    rows k j kn jn = let e = units_in c.n _ j jn.0 jn.1 ∙ units_in c.n c.first k kn.0 kn.1 in (e, e)

    next : (k : ℕ) → Index c.n k → unit.req k ≡ c.first k
    unfolding opened
    next k kn = units_in c.n c.first k kn.0 kn.1

    lowest : (k : ℕ) → Index c.n k → least c.n (unit.al k) ≡ c.first k
    lowest k kn =
        omega (
          arith,
          row-le refl (unit.al k) k kn,
          (rows k k kn kn).0,
          row-glb refl (unit.al k) (c.first k) (le_trans inn.0 inn.1) (λ j jn. omega (arith, (rows k j kn jn).0)),
        )

    start-lists : Lists c (top_of c start) c.first [] (part unit)
    unfolding opened from
    start-lists =
        record {
          lane = λ k kn. refl;
          rest = λ k kn. sym (next k kn);
          early = λ k kn. omega (arith, lowest k kn);
          holds = tt;
          waits = tt;
          pal = λ k j kn jn. (rows k j kn jn).1 ∙ ap (λ (f : ℕ → ℕ). f k) (sym (said-first c j));
          ordered = tt;
          over = tt;
          firm = tt;
        }

    start-member : Member c (top_of c start) (reqs start) i (core unit) (part unit) unit.confirmed []
    unfolding opened fresh
    start-member =
        record {
          me = refl;
          w = refl;
          cid = refl;
          seq = omega arith;
          tidy = record {
            size = refl;
            columns = λ x xn. column-first (next x xn) (λ k kn. (rows k x kn xn).0) start-numbers xn;
            settled = record { pre = c.first; lists = start-lists; calm = λ k kn. omega (arith, lowest k kn) };
          };
          told = record { told = λ x xn. says_first (next x xn) (λ k kn. (rows k x kn xn).0) };
          kept = λ s low high. absurd (omega (arith, lowest i inn));
          logs = record { have = tt; full = λ k s kn low high. absurd (omega (arith, next k kn)); tell = tt };
        }

  -- where there is a unit at all
  pub good_start : Index c.n 1 → Good c start
  unfolding fresh
  good_start one =
      record {
        fair = record {
          limits = record {
            some = O.ranges.n-low;
            few = O.ranges.n-high;
            narrow = O.ranges.w-high;
            cid = O.group;
            start = λ k kn. O.low k kn.0 kn.1;
            end = λ k kn. omega (arith, O.high k kn.0 kn.1);
          };
          numbers = start-numbers;
          spoken = record {
            src = λ j s h. absurd (none h);
            seq = λ j s h. absurd (none h);
            own = λ j s h. absurd (none h);
            floor = λ j s k h kn. absurd (none h);
            mono = λ j s t k h g st kn. absurd (none h);
          };
          closed = record {
            close = λ i j s k inn jn kn low h. absurd (omega (arith, req-first i j inn jn));
            chain = λ l t j s k h jn kn low b. absurd (none h);
          };
          window = record { near = λ j s k h kn. absurd (none h) };
          readable = record { read = λ j s h. absurd (none h) };
        };
        own = λ i inn. omega (arith, req-first i i inn inn);
        members = λ i inn.
            subst (λ (u : State). Member c (top_of c start) (reqs start) i (core u) (part u) u.confirmed []) (sym (said-open i inn).unit)
            (start-member i inn);
        air = tt;
      }
    where
      O : Opens 1 c.n c.w c.cid c.first
      O = (said-open 1 one).opens
