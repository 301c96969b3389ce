-- The log of a unit holds just what is below its REQ, and each message sent tells just what stood in it then.
use mathlib.Core.List.{List, [], ◌∷◌, map, Memᴰ as Mem}
use mathlib.Core.Path.{◌≡◌, refl, sym, ap, ap₂, subst, subst₂, ◌∙◌}
use Prim.Native.Nat.{ℕ, ◌≤◌, ◌<◌}
use native.Mathlib.Omega.{arith}
use native.Mathlib.Nat.{le_trans}
use Rattle.rules.specs.Message.{Message, message, encode}
use Rattle.group.specs.Runs.{Index, Did, sent, accepted}
use Rattle.group.specs.Causality.{Ahead, here, there, about}
use Rattle.group.proofs.All.{All, all_map, all-mem, mem-unmap}
use Rattle.group.proofs.Course.{Course, Sent, ack_of}
use Rattle.group.proofs.Numbers.{Spoken}
use Rattle.group.proofs.Growth.{bumped, bumped-up, bumped-same, bumped-all, sent-bumped}

-- m was sent
pub record Of (c : Course) (top : ℕ → ℕ) (m : Message) : Type 0 where
  pub sent : Sent c top m.src m.seq
  pub is : m ≡ c.msg m.src m.seq

pub of-message : {c : Course} {top : ℕ → ℕ} → Spoken c top → {j s : ℕ} → Sent c top j s → {m : Message} → m ≡ c.msg j s → Of c top m
of-message {c} {top} H {j} {s} h {m} e =
    record { sent = subst₂ (Sent c top) (sym src) (sym seq) h; is = e ∙ sym (ap₂ c.msg src seq) }
  where
    src : m.src ≡ j
    src = ap (λ (x : Message). x.src) e ∙ H.src j s h

    seq : m.seq ≡ s
    seq = ap (λ (x : Message). x.seq) e ∙ H.seq j s h

pub of-bumped : {c : Course} {top : ℕ → ℕ} (i : ℕ) {m : Message} → Of c top m → Of c (bumped top i) m
of-bumped i o = record { sent = sent-bumped i o.sent; is = o.is }

-- i sent m in the frame f when its log was l: m's ACKs are above just what stands in l
pub record Tells (c : Course) (i : ℕ) (m : Message) (f : List ℕ) (l : List Did) : Type 0 where
  pub src : m.src ≡ i
  pub frame : f ≡ encode (message m)
  pub back : All (λ e. (about e).seq < ack_of m (about e).src) l
  pub forth : (k s : ℕ) → Index c.n k → c.first k ≤ s → s < ack_of m k → Mem (c.msg k s) (map about l)

abbrev pub TellsIfSent : Course → ℕ → Did → List Did → Type 0
TellsIfSent c i (sent m f) l = Tells c i m f l
TellsIfSent c i (accepted m) l = Unit {0}

abbrev pub AllTell : Course → ℕ → List Did → Type 0
AllTell c i [] = Unit {0}
AllTell c i (e ∷ l) = TellsIfSent c i e l × AllTell c i l

-- e is about a message that was sent, and is below r
pub record Has (c : Course) (top r : ℕ → ℕ) (e : Did) : Type 0 where
  pub of : Of c top (about e)
  pub below : (about e).seq < r (about e).src

pub record Log (c : Course) (top r : ℕ → ℕ) (i : ℕ) (l : List Did) : Type 0 where
  pub have : All (Has c top r) l
  pub full : (k s : ℕ) → Index c.n k → c.first k ≤ s → s < r k → Mem (c.msg k s) (map about l)
  pub tell : AllTell c i l

pub log-bumped : {c : Course} {top r : ℕ → ℕ} {i : ℕ} {l : List Did} → Log c top r i l → (k : ℕ) → Log c (bumped top k) r i l
log-bumped {c} {top} {r} {l = l} G k = record { have = all_map more l G.have; full = G.full; tell = G.tell }
  where
    more : (e : Did) → Has c top r e → Has c (bumped top k) r e
    more e h = record { of = of-bumped k h.of; below = h.below }

-- the next message of j is accepted, own or heard
pub log-accepted : {c : Course} {top r : ℕ → ℕ} {i : ℕ} {l : List Did} → Log c top r i l → Spoken c top → {j : ℕ} → Sent c top j (r j)
    → (e : Did) → about e ≡ c.msg j (r j) → TellsIfSent c i e l → Log c top (bumped r j) i (e ∷ l)
log-accepted {c} {top} {r} {l = l} G H {j} h e is t =
    record {
      have = (record { of = of-message H h is; below = subst (λ (m : Message). m.seq < bumped r j m.src) (sym is) new }, all_map more l G.have);
      full = λ k s kn low x.
          bumped-all r j (λ k s. Index c.n k → c.first k ≤ s → Mem (c.msg k s) (map about (e ∷ l)))
          (λ a b. Mem.head (sym is)) (λ k s y a b. Mem.tail (G.full k s a b y)) k s x kn low;
      tell = (t, G.tell);
    }
  where
    more : (d : Did) → Has c top r d → Has c top (bumped r j) d
    more d x = record { of = x.of; below = le_trans x.below (bumped-up r j (about d).src) }

    new : (c.msg j (r j)).seq < bumped r j (c.msg j (r j)).src
    new =
        subst (λ k. (c.msg j (r j)).seq < bumped r j k) (sym (H.src j (r j) h)) (omega (arith, H.seq j (r j) h, bumped-same r j))

-- what a new message tells
pub tells-now : {c : Course} {top r : ℕ → ℕ} {i : ℕ} {l : List Did} → Log c top r i l → (m : Message) → m.src ≡ i
    → ((k : ℕ) → Index c.n k → ack_of m k ≡ r k) → Tells c i m (encode (message m)) l
tells-now {c} {top} {r} {l = l} G m src ack =
    record {
      src = src;
      frame = refl;
      back = all_map known l G.have;
      forth = λ k s kn low h. G.full k s kn low (omega (arith, ack k kn));
    }
  where
    known : (e : Did) → Has c top r e → (about e).seq < ack_of m (about e).src
    known e h = omega (arith, h.below, ack (about e).src h.of.sent.index)

-- ---- reading it

tells_at : (c : Course) (i : ℕ) (m : Message) (f : List ℕ) (e : Did) (l : List Did) → sent m f ≡ e → AllTell c i (e ∷ l)
    → Tells c i m f l
tells_at c i m f e l q t = subst (λ (x : Did). TellsIfSent c i x l) (sym q) t.0

pub tells-back : (c : Course) (i : ℕ) (m : Message) (f : List ℕ) (e : Did) (l : List Did) → AllTell c i l → Ahead (sent m f) e l
    → (about e).seq < ack_of m (about e).src
tells-back c i m f e [] t a = elim a [ ]
tells-back c i m f e (x ∷ l) t (here q h) = all-mem (λ d. (about d).seq < ack_of m (about d).src) e l h (tells_at c i m f x l q t).back
tells-back c i m f e (x ∷ l) t (there a) = tells-back c i m f e l t.1 a

pub tells-forth : (c : Course) (i : ℕ) (m : Message) (f : List ℕ) (l : List Did) → AllTell c i l → Mem (sent m f) l
    → (k s : ℕ) → Index c.n k → c.first k ≤ s → s < ack_of m k → (e : Did) × (about e ≡ c.msg k s) × Ahead (sent m f) e l
tells-forth c i m f [] t a k s kn low h = elim a [ ]
tells-forth c i m f (x ∷ l) t (Mem.head q) k s kn low h =
    let r = mem-unmap about (c.msg k s) l ((tells_at c i m f x l q t).forth k s kn low h) in
    (r.0, r.1, here q r.2)
tells-forth c i m f (x ∷ l) t (Mem.tail a) k s kn low h =
    let r = tells-forth c i m f l t.1 a k s kn low h in
    (r.0, r.1, there r.2)

-- the sender and the frame of a message that a log says was sent
pub tells-sent : (c : Course) (i : ℕ) (m : Message) (f : List ℕ) (l : List Did) → AllTell c i l → Mem (sent m f) l → (m.src ≡ i) × (f ≡ encode (message m))
tells-sent c i m f [] t a = elim a [ ]
tells-sent c i m f (x ∷ l) t (Mem.head q) = let r = tells_at c i m f x l q t in (r.src, r.frame)
tells-sent c i m f (x ∷ l) t (Mem.tail a) = tells-sent c i m f l t.1 a
