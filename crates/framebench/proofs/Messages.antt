-- Message i is lawful, the writer takes it where there is room, and the reader reads it back.
use Rattle.std.proofs.Common.{◌≡◌, ℕ, zero, suc, ◌+◌, ◌*◌, ◌%◌, ◌<◌, ◌≤◌, List, length, take, replicate, arith, length-take-le, le-ltb}
use lib.ListN.{length-replicate}
use Rattle.rules.specs.Message.{message, last, encode, decode}
use Rattle.rules.specs.Lawful.{Each, nil, cons, Lawful}
use Rattle.rules.proofs.MapsLaws.{is-between}
use Rattle.frame.specs.declared.Frame.{Frame}
use Rattle.frame.specs.Frame.{data_of, frame_of}
use Rattle.answers.specs.Answers.{Answered}
use Rattle.answers.specs.declared.Refusal.{Refusal}
use Rattle.rules.proofs.MessageLaws.{length-message}
use Rattle.std.specs.Prelude as Rust
use Rattle.std.specs.Prelude.{Some, None, Ok, Err}
use Rattle.frame.specs.declared.Frame.TheVariants.{Data, Request}
use Rattle.frame.specs.declared.Request.{Request as Asked}
use Rattle.frame.specs.declared.Data.{Data as Shown}
use Rattle.framewrite.specs.Writing.{data_written, Wrote}
use Rattle.framewrite.proofs.RoundTrip.{read-write-data}
use Rattle.framebench.specs.Rounds.{message_of}

each-of-one : (P : ℕ → Type 0) (x : ℕ) → P x → (k n : ℕ) → Each P (take k (replicate n x))
each-of-one P x h zero n = nil
each-of-one P x h (suc k) zero = nil
each-of-one P x h (suc k) (suc n) = cons h (each-of-one P x h k n)

length-of-one : (x k n : ℕ) → k ≤ n → length (take k (replicate n x)) ≡ k
length-of-one x k n h = length-take-le k (replicate n x) (omega (arith, length-replicate {A = ℕ} n x))

pub ack-count : (i : ℕ) → length (message_of i).ack ≡ i % 7 + 2
ack-count i = length-of-one (i % 4294967294 + 1) (i % 7 + 2) 8 (omega arith)

pub text-length : (i : ℕ) → length (message_of i).text ≡ i % 49
text-length i = length-of-one 120 (i % 49) 48 (omega arith)

lawful : (i : ℕ) → i ≤ last → Lawful (message (message_of i))
lawful i h =
    record {
      cid = h;
      src = omega arith;
      seq_least = omega arith;
      seq_greatest = omega arith;
      ack =
          record {
            least = omega (arith, ack-count i);
            greatest = omega (arith, ack-count i);
            each = each-of-one (λ x. (1 ≤ x) × (x ≤ last)) (i % 4294967294 + 1) (omega arith, omega arith) (i % 7 + 2) 8;
          };
      buf = omega arith;
      short = omega (arith, text-length i);
      text = each-of-one (λ x. x < 256) 120 (omega arith) (i % 49) 48;
    }

-- the writer takes message i, and what it wrote is read back
module _ (i : ℕ) (small : i ≤ last) (out : List ℕ) (room : 37 + 4 * (i % 7 + 2) + i % 49 ≤ length out) where
  abbrev size : ℕ
  size = 37 + 4 * (i % 7 + 2) + i % 49

  taken : (data_written (i % 7 + 2) (message_of i) out).given ≡ Ok size
  unfolding data_written
  taken =
      let long : length (encode (message (message_of i))) ≡ size = omega (arith, length-message (message_of i), ack-count i, text-length i) in
      rw
      (is-between 2 8 (i % 7 + 2) (omega arith) (omega arith), le-ltb 48 (length (message_of i).text) (omega (arith, text-length i)), le-ltb (length out) (37 + 4 * (i % 7 + 2) + length (message_of i).text) (omega (arith, text-length i)), long)

  module _ (r : Answered ℕ) (after : List ℕ) (w : Wrote (data_written (i % 7 + 2) (message_of i) out) r after) where
    pub no-refusal : (e : Refusal) → r ≡ Err e → ⊥
    no-refusal e h = cc (w.gives, taken, h)

    module _ (k : ℕ) (h : r ≡ Ok k) where
      size-given : k ≡ size
      size-given = cc (w.gives, taken, h)

      pub inside : k ≤ length out
      inside = omega (arith, size-given)

      module _ (f : Rust.Option Frame) (e : f ≡ frame_of (decode (take k after))) where
        comes_back : f ≡ Some (Data (data_of (message_of i)))
        unfolding frame_of
        comes_back =
            let size-is : 37 + 4 * length (message_of i).ack + length (message_of i).text ≡ k = omega (arith, size-given, ack-count i, text-length i) in
            read-write-data (i % 7 + 2) (message_of i) (lawful i small) out after k (rw (← h) w) f (rw size-is e)

        pub data-back : (x : Frame) → f ≡ Some x → (d : Shown) → x ≡ Data d → d ≡ data_of (message_of i)
        data-back x a d b = cc comes_back

        pub no-request : (x : Frame) → f ≡ Some x → (q : Asked) → x ≡ Request q → ⊥
        no-request x a q b = cc comes_back

        pub not-lost : f ≡ None → ⊥
        not-lost a = cc comes_back

pub sum_fits : (i : ℕ) (d : Shown) → d ≡ data_of (message_of i) → d.head.n + d.len < 4294967296
sum_fits i d e = rw e (omega (arith, ack-count i, text-length i))
