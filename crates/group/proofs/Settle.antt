-- One acceptance, own or heard: the lists keep what they keep, and afterwards nothing is due.
use mathlib.Core.List.{List, [], ◌∷◌, ◌++◌, append_assoc}
use mathlib.Core.Path.{◌≡◌, refl, sym, ap, subst}
use Prim.Native.Nat.{ℕ, suc, ◌≤◌, ◌<◌}
use native.Mathlib.Omega.{arith}
use native.Mathlib.Nat.{le_trans}
use Rattle.rules.specs.Maps.{at, upd, least}
use Rattle.rules.specs.Message.{Message}
use Rattle.rules.specs.State.{Place, State, min_al, min_pal, from}
use Rattle.rules.specs.Steps.{placed, stored, preacked, preack_to, moved, accepted}
use Rattle.rules.proofs.StepsLaws.{Stopped, Due, preack_to-all, Ready, confirm-all}
use Rattle.group.specs.Runs.{Index}
use Rattle.group.proofs.All.{All, all_right}
use Rattle.group.proofs.Senders.{Upward, upward-length}
use Rattle.group.proofs.Course.{Course, said}
use Rattle.group.proofs.Numbers.{Spoken, Closed, said-closed, said-mono}
use Rattle.group.proofs.Columns.{row-le, row-glb}
use Rattle.group.proofs.Lists.{Holds, Part, part, Lists, stored-lists, preacked-lists, moved_lists}

-- what settling leaves alone
pub record Core : Type 0 where
  pub me : ℕ
  pub n : ℕ
  pub w : ℕ
  pub cid : ℕ
  pub seq : ℕ
  pub req : ℕ → ℕ
  pub al : ℕ → ℕ → ℕ
  pub kept : ℕ → List ℕ

abbrev pub core : State → Core
core u =
    record { me = u.me; n = u.n; w = u.w; cid = u.cid; seq = u.seq; req = u.req; al = u.al; kept = u.kept }

-- what settling asks of it
pub record Knows (c : Course) (top : ℕ → ℕ) (u : Core) : Type 0 where
  pub size : u.n ≡ c.n
  pub high : (j : ℕ) → Index c.n j → u.req j ≤ top j
  pub low : (j : ℕ) → Index c.n j → least u.n (u.al j) ≤ u.req j
  pub reaches : (j k : ℕ) → Index c.n j → Index c.n k → said c j (u.req j) k ≤ u.al k j

-- nothing is due: all below minAL is pre-acknowledged
pub record Settled (c : Course) (top : ℕ → ℕ) (done : List Place) (u : Part) : Type 0 where
  pub pre : ℕ → ℕ
  pub lists : Lists c top pre done u
  pub calm : (j : ℕ) → Index c.n j → least u.n (u.al j) ≤ pre j

module _ {c : Course} {top pre : ℕ → ℕ} {done : List Place} {u : Part} (L : Lists c top pre done u) (j : ℕ) (jn : Index c.n j) where
  pub first-le : c.first j ≤ pre j
  first-le = omega (arith, upward-length (c.first j) (from j (done ++ u.ordered)) (pre j) (L.lane j jn))

  pub pre-le : pre j ≤ u.req j
  pre-le = omega (arith, upward-length (pre j) (from j u.waiting) (u.req j) (L.rest j jn))

module _ {c : Course} {top : ℕ → ℕ} {R : ℕ → ℕ → ℕ} (H : Spoken c top) (C : Closed c top R) (old : List Place) where
  -- ---- pre-acknowledging

  record Preacking (u : State) : Type 0 where
    pub knows : Knows c top (core u)
    pub pre : ℕ → ℕ
    pub lists : Lists c top pre (old ++ u.confirmed) (part u)

  preacking : (j : ℕ) (u : State) (p : Place) (ps : List Place) → Preacking u → Due j u p ps → Preacking (preacked u p)
  unfolding preacked
  preacking j u p ps W due =
      record {
        knows = W.knows;
        pre = upd W.pre p.src (suc p.seq);
        lists =
            preacked-lists H C u W.lists p ps (subst (λ k. from k u.waiting ≡ p ∷ ps) (sym due.src) due.oldest)
            (subst (λ k. p.seq < min_al u k) (sym due.src) due.early);
      }

  -- ---- confirming

  record Confirming (u : State) : Type 0 where
    pub knows : Knows c top (core u)
    pub settled : Settled c top (old ++ u.confirmed) (part u)

  -- where no message of j is due, all of j's below minAL went over
  all-over : (u : State) → Preacking u → ((j : ℕ) → Index c.n j → Stopped j u) → Confirming u
  unfolding min_al
  all-over u W stopped =
      record {
        knows = W.knows;
        settled = record {
          pre = W.pre;
          lists = W.lists;
          calm = λ j jn. over j jn (from j u.waiting) (W.lists.rest j jn) (stopped j jn).late;
        };
      }
    where
      over : (j : ℕ) → Index c.n j → (l : List Place) → Upward (W.pre j) l (u.req j)
          → ((p : Place) (ps : List Place) → l ≡ p ∷ ps → min_al u j ≤ p.seq) → min_al u j ≤ W.pre j
      over j jn [] h f = omega (arith, W.knows.low j jn)
      over j jn (p ∷ ps) h f = omega (arith, h.0, f p ps refl)

  -- all that precedes a message ready to be confirmed is pre-acknowledged
  ready-over : (u : State) → Knows c top (core u) → {done : List Place} (S : Settled c top done (part u)) (p : Place) → Holds c top p
      → ((j : ℕ) → Index c.n j → p.seq < u.pal p.src j) → (k : ℕ) → Index c.n k → at p.ack k ≤ S.pre k
  ready-over u K S p h f k kn = le_trans (row-glb K.size (u.al k) (at p.ack k) (le_trans kn.0 kn.1) known) (S.calm k kn)
    where
      known : (j : ℕ) → Index c.n j → at p.ack k ≤ u.al k j
      known j jn =
          let below = pre-le S.lists j jn in
          omega (
            arith,
            ap (λ (l : List ℕ). at l k) h.ack,
            K.reaches j k jn kn,
            said-mono j jn H (S.pre j) (u.req j) (K.high j jn) below k kn,
            said-closed j jn C (S.pre j) (le_trans below (K.high j jn)) p.src p.seq k h.sent.index kn h.sent.low
                (omega (arith, f j jn, S.lists.pal p.src j h.sent.index jn)),
          )

  confirming : (u : State) (p : Place) (ps : List Place) → Confirming u → Ready u p ps → Confirming (moved u p)
  unfolding moved min_pal
  confirming u p ps W ready =
      record {
        knows = W.knows;
        settled =
            subst (λ (l : List Place). Settled c top l (part (moved u p))) (append_assoc old u.confirmed (p ∷ []))
            (record {
              pre = W.settled.pre;
              lists = moved_lists u W.settled.lists p ps ready.head (ready-over u W.knows W.settled p holds firm) firm;
              calm = W.settled.calm;
            });
      }
    where
      holds : Holds c top p
      holds =
          (subst (All (Holds c top)) ready.head
          (all_right (Holds c top) (old ++ u.confirmed) u.ordered W.settled.lists.holds)).0

      firm : (j : ℕ) → Index c.n j → p.seq < u.pal p.src j
      firm j jn = le_trans ready.early (row-le W.knows.size (u.pal p.src) j jn)

  -- ---- p is accepted

  pub accepted-settled : (u : State) (p : Message) → Settled c top (old ++ u.confirmed) (part u) → Holds c top (placed u p)
      → u.req p.src ≡ p.seq → ((k : ℕ) → Index c.n k → min_al u k ≤ min_al (stored u p) k) → Knows c top (core (stored u p))
      → Settled c top (old ++ (accepted u p).confirmed) (part (accepted u p))
  unfolding accepted stored
  accepted-settled u p S h e up K =
      (confirm-all Confirming confirming t (all-over t out.0 (λ j jn. out.1 j jn.0 (omega (arith, K.size))))).settled
    where
      t : State
      t = preack_to u.n (stored u p)

      out : Preacking t × ((j : ℕ) → 1 ≤ j → j ≤ u.n → Stopped j t)
      out = preack_to-all Preacking preacking u.n (stored u p) (record { knows = K; pre = S.pre; lists = stored-lists u S.lists p h e up })
