use Rattle.std.proofs.Common.{◌≡◌, ℕ, zero, suc, ◌+◌, ◌*◌, Bool, true, false, cond, not, eqb, leb, List, [], length, Some, None, Ok, Err, Option, sym, refl, arith, le-leb}
use Rattle.ledger.specs.declared.stop.Reason.TheVariants.{BeyondBytes}
use Rattle.ledger.specs.Stops.{stopped}
use Rattle.layout.specs.declared.marks.Marks.{Marks}
use Rattle.layout.specs.Bits.{zeros_from, zeros_reply}
use Rattle.layout.specs.Marks.{mark_of, mark_bit, mark_need_of, nulls_reply}
use Rattle.layout.proofs.NeedLaws.{marks_reach, zeros_nulls, each_free, counts_all, counts_none}
use Rattle.layout.proofs.Counting.{zeros_none}
use Rattle.slots.specs.Replies.{count_reply, or_beyond}

-- the null marks, by the bits that they need
pub asked_count : (ms : Option Marks) (len : ℕ) (b : List ℕ) → or_beyond (nulls_reply ms b len) ≡ count_reply len (mark_need_of ms) (λ j. not (mark_of ms b j)) b
asked_count None len b = rw (each_free len, counts_none len, le-leb 0 (8 * length b) (omega arith)) refl
asked_count (Some m) len b =
    rw (marks_reach m len, sym (zeros_nulls m b len)) (by len)
  where
    both : {X : Type 0} (t : Bool) (x : X) → or_beyond (cond t (Some x) None) ≡ cond t (Ok x) (Err (stopped BeyondBytes))
    both true x = refl
    both false x = refl

    by : (n : ℕ) → or_beyond (zeros_reply b (mark_bit m 0) n) ≡ cond (leb (cond (eqb n 0) 0 (mark_bit m n)) (8 * length b)) (Ok (zeros_from b (8 * m.place + m.first) n)) (Err (stopped BeyondBytes))
    by zero = rw (le-leb 0 (8 * length b) (omega arith), zeros_none b (8 * m.place + m.first)) refl
    by (suc n) =
        let f : eqb (suc n) 0 ≡ false = grind arith in
        let e : 8 * m.place + m.first + 0 ≡ 8 * m.place + m.first = omega arith in
        rw (f, e) (both (leb (8 * m.place + m.first + suc n) (8 * length b)) (zeros_from b (8 * m.place + m.first) (suc n)))

-- where every slot counts, or none, and no bit is needed
pub count_all : (n : ℕ) (b : List ℕ) → count_reply n (λ j. []) (λ j. true) b ≡ Ok n
count_all n b = rw (each_free n, counts_all n, le-leb 0 (8 * length b) (omega arith)) refl

pub count_none : (n : ℕ) (b : List ℕ) → count_reply n (λ j. []) (λ j. false) b ≡ Ok 0
count_none n b = rw (each_free n, counts_none n, le-leb 0 (8 * length b) (omega arith)) refl
