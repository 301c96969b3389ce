-- One unit with its log and all that it has confirmed: when another writes or accepts, when it writes, and when it accepts.
use mathlib.Core.Logic.{◌≢◌}
use mathlib.Core.List.{List, ◌∷◌, ◌++◌}
use mathlib.Core.Path.{◌≡◌, sym, ap, subst, ◌∙◌}
use Prim.Native.Nat.{ℕ, suc, ◌≤◌, ◌<◌}
use native.Mathlib.Omega.{arith}
use native.Mathlib.Nat.{le_trans}
use borrow.Author.Tests.{le-leb}
use Rattle.rules.specs.Maps.{least}
use Rattle.rules.specs.Message.{Message, message, encode}
use Rattle.rules.specs.State.{Place, State, min_al}
use Rattle.rules.specs.Steps.{stored, keeping, accepted}
use Rattle.rules.proofs.MapsLaws.{upd-all}
use Rattle.group.specs.Runs.{Index, Did}
use Rattle.group.specs.Causality.{about}
use Rattle.group.proofs.Course.{Course, ack_of, said, said-suc}
use Rattle.group.proofs.Numbers.{Numbers, Spoken, Closed, said-mono}
use Rattle.group.proofs.Growth.{bumped, bumped-same, bumped-other, grown, grown-same, Next}
use Rattle.group.proofs.Lists.{Part, part}
use Rattle.group.proofs.Settle.{Core, core}
use Rattle.group.proofs.Tidy.{Tidy, Told, tidy-written, tidy-grown, min_al-up, accepted-core, accepted-req, tidy-accepted, told-accepted}
use Rattle.group.proofs.Logs.{TellsIfSent, Log, log-bumped, log-accepted}

pub record Member (c : Course) (top : ℕ → ℕ) (R : ℕ → ℕ → ℕ) (i : ℕ) (k : Core) (u : Part) (done : List Place) (log : List Did) : Type 0 where
  pub me : k.me ≡ i
  pub w : k.w ≡ c.w
  pub cid : k.cid ≡ c.cid
  pub seq : k.seq ≡ top i
  pub kept : (s : ℕ) → least k.n (k.al i) ≤ s → s < top i → k.kept s ≡ encode (message (c.msg i s))
  pub tidy : Tidy c top R done u
  pub told : Told c u
  pub logs : Log c top k.req i log

-- ---- another writes, or accepts

module _ {c : Course} {top : ℕ → ℕ} {R : ℕ → ℕ → ℕ} {l : ℕ} {k : Core} {u : Part} {done : List Place} {log : List Did}
    (M : Member c top R l k u done log) where
  pub member-written : (i : ℕ) → l ≢ i → Member c (bumped top i) R l k u done log
  member-written i d =
      record {
        me = M.me;
        w = M.w;
        cid = M.cid;
        seq = M.seq ∙ sym (bumped-other top i l d);
        kept = λ s low high. M.kept s low (subst (λ x. s < x) (bumped-other top i l d) high);
        tidy = tidy-written M.tidy i;
        told = M.told;
        logs = log-bumped M.logs i;
      }

  pub member-grown : (i j : ℕ) → Member c top (grown R i j) l k u done log
  member-grown i j =
      record {
        me = M.me;
        w = M.w;
        cid = M.cid;
        seq = M.seq;
        kept = M.kept;
        tidy = tidy-grown M.tidy i j;
        told = M.told;
        logs = M.logs;
      }

-- ---- it writes m: the number is used and the frame kept; then m is accepted

pub member-keeping : {c : Course} {top : ℕ → ℕ} {R : ℕ → ℕ → ℕ} {i : ℕ} {done : List Place} {log : List Did} (u : State)
    → Member c top R i (core u) (part u) done log → (m : Message) → m ≡ c.msg i (top i)
    → Member c (bumped top i) R i (core (keeping u m)) (part (keeping u m)) done log
member-keeping {c} {top} {i = i} u M m is =
    record {
      me = M.me;
      w = M.w;
      cid = M.cid;
      seq = ap suc M.seq ∙ sym (bumped-same top i);
      kept =
          upd-all u.kept u.seq (encode (message m))
          (λ s v. least u.n (u.al i) ≤ s → s < bumped top i i → v ≡ encode (message (c.msg i s)))
          (λ low high. ap (λ (x : Message). encode (message x)) (is ∙ ap (c.msg i) (sym M.seq)))
          (λ s d low high. M.kept s low (omega (arith, bumped-same top i, M.seq)));
      tidy = tidy-written M.tidy i;
      told = M.told;
      logs = log-bumped M.logs i;
    }

-- ---- it accepts, its own or another's

module _ {c : Course} {top : ℕ → ℕ} {R : ℕ → ℕ → ℕ} {i j : ℕ} {log : List Did} (I : Numbers c top R) (H : Spoken c top)
    (C : Closed c top R) (A : Next c top R i j) (took : List Place) (u : State) (same : u.req ≡ R i) (M : Member c top R i (core u) (part u) (took ++ u.confirmed) log) where
  abbrev p : Message
  p = c.msg j (R i j)

  -- AL only grows
  up : (k : ℕ) → Index c.n k → u.al k j ≤ ack_of p k
  up k kn =
      omega (
        arith,
        (M.told.told j A.sent.index).says k kn,
        ap (λ (f : ℕ → ℕ). said c j (f j) k) same,
        ap (λ (v : ℕ → ℕ). v k) (said-suc c j (R i j) A.sent.low),
        said-mono j A.sent.index H (R i j) (suc (R i j)) A.sent.high (omega arith) k kn,
      )

  unchanged : core (accepted u p) ≡ core (stored u p)
  unchanged = accepted-core I H C A took u same M.tidy up

  pub member-req : (accepted u p).req ≡ grown R i j i
  member-req = accepted-req I H C A took u same M.tidy up

  stored-kept : (s : ℕ) → min_al (stored u p) i ≤ s → s < top i → (stored u p).kept s ≡ encode (message (c.msg i s))
  unfolding stored min_al
  stored-kept s low high =
      rw (le-leb _ s (subst (λ x. least u.n ((stored u p).al x) ≤ s) (sym M.me) low))
      (M.kept s (le_trans (min_al-up I H C A took u same M.tidy up i A.index) low) high)

  pub member-accepted : (e : Did) → about e ≡ p → TellsIfSent c i e log
      → Member c top (grown R i j) i (core (accepted u p)) (part (accepted u p)) (took ++ (accepted u p).confirmed) (e ∷ log)
  unfolding stored min_al
  member-accepted e is t =
      record {
        me = ap (λ (k : Core). k.me) unchanged ∙ M.me;
        w = ap (λ (k : Core). k.w) unchanged ∙ M.w;
        cid = ap (λ (k : Core). k.cid) unchanged ∙ M.cid;
        seq = ap (λ (k : Core). k.seq) unchanged ∙ M.seq;
        kept =
            subst (λ (k : Core). (s : ℕ) → least k.n (k.al i) ≤ s → s < top i → k.kept s ≡ encode (message (c.msg i s)))
            (sym unchanged) stored-kept;
        tidy = tidy-accepted I H C A took u same M.tidy up;
        told = told-accepted I H C A took u same M.tidy up M.told;
        logs =
            subst (λ (r : ℕ → ℕ). Log c top r i (e ∷ log)) (sym (member-req ∙ grown-same R i j))
            (log-accepted (subst (λ (r : ℕ → ℕ). Log c top r i log) same M.logs) H A.sent e is t);
      }
