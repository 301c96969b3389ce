-- What a unit holds (01, "What a unit holds"), at opening and when closed.
use Rattle.std.specs.Prelude.{cond, List, [], ◌∷◌, ◌++◌, ℕ, ◌-◌, ◌*◌, eqb, length}
use Rattle.rules.specs.Maps.{least, units}

-- A taken place, with the message in it: each sender has 4W places, `slot` counts them from 0.
pub record Place : Type 0 where
  pub slot : ℕ
  pub src : ℕ
  pub seq : ℕ
  pub ack : List ℕ
  pub text : List ℕ

pub record State : Type 0 where
  pub me : ℕ
  pub n : ℕ
  pub w : ℕ
  pub cid : ℕ
  -- the number to send next
  pub seq : ℕ
  -- req k: the number next expected from k
  pub req : ℕ → ℕ
  -- al k j: what j is known to expect next from k; pal: the same, from pre-acknowledged messages of j
  pub al : ℕ → ℕ → ℕ
  pub pal : ℕ → ℕ → ℕ
  pub buf : ℕ → ℕ
  -- heard k: one past the largest number of k's heard of
  pub heard : ℕ → ℕ
  -- kept s: the own frame of number s, from minAL of the own index up to SEQ - 1
  pub kept : ℕ → List ℕ
  pub waiting : List Place
  pub ordered : List Place
  pub confirmed : List Place

unfoldable pub min_al : State → ℕ → ℕ
min_al s k = least s.n (s.al k)

unfoldable pub min_pal : State → ℕ → ℕ
min_pal s k = least s.n (s.pal k)

-- the taken places, and those of sender k
abbrev pub taken : State → List Place
taken s = s.confirmed ++ s.ordered ++ s.waiting

unfoldable pub from : ℕ → List Place → List Place
from k [] = []
from k (p ∷ l) = cond (eqb p.src k) (p ∷ from k l) (from k l)

-- the number of all places, and of the free ones
abbrev pub places : State → ℕ
places s = 4 * s.w * s.n

unfoldable pub free : State → ℕ
free s = places s - length (taken s)

-- unit i of n, with window w, group number CID, and the first number of each unit
unfoldable pub opened : ℕ → ℕ → ℕ → ℕ → (ℕ → ℕ) → State
opened i n w cid first =
    record {
      me = i;
      n = n;
      w = w;
      cid = cid;
      seq = first i;
      req = units n first;
      al = λ k. units n (λ j. units n first k);
      pal = λ k. units n (λ j. units n first k);
      buf = units n (λ j. 4 * w * n);
      heard = units n first;
      kept = λ x. [];
      waiting = [];
      ordered = [];
      confirmed = [];
    }

-- the closed unit: all numbers 0
unfoldable pub closed : State
closed = opened 0 0 0 0 (λ k. 0)
