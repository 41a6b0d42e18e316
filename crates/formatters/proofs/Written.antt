-- One piece of text behind another.
use Rattle.std.proofs.Common.{◌≡◌, ℕ, zero, suc, ◌-◌, ◌/◌, ◌%◌, ◌+◌, ◌<◌, ◌≤◌, Bool, true, false, cond, leb, List, [], ◌∷◌, ◌++◌, Result, Ok, Err, ◌∙◌, append_assoc, length-append, arith}
use Rattle.hosts.specs.declared.answer.Unwritten.{Unwritten}
use Rattle.hosts.specs.declared.answer.Unwritten.TheVariants.{TooLong}
use Rattle.meaning.specs.Formatters.{digits_of}
use Rattle.formatters.specs.Writing.{Wrote, text_of}
use Rattle.formatters.specs.declared.writer.Writer.{Writer}

-- the text that was written is the one that was to be
taken : (x y : List ℕ) (fits : Bool) → Ok x ≡ cond fits (Ok y) (Err TooLong) → x ≡ y
taken x y true e = cc
taken x y false e = absurd cc

-- what is too long is so with more behind it
longer : (e : Unwritten) (m n room : ℕ) (x y : List ℕ) → m ≤ n → Err e ≡ cond (leb m room) (Ok x) (Err TooLong) → Err e ≡ cond (leb n room) (Ok y) (Err TooLong)
longer e m n room x y h k = grind arith

module _ (a b : List ℕ) where
  wrote_both : (old mid new : Writer) (r : Result (Unit {0}) Unwritten) → Wrote a (Ok tt) old mid → Wrote b r mid new → Wrote (a ++ b) r old new
  wrote_both old mid new r p q = record {
    answers = rw (← append_assoc (text_of old) a b, ← taken _ _ _ p.answers, ← p.room) q.answers;
    lender = q.lender ∙ p.lender;
    room = q.room ∙ p.room;
  }

  stays_too_long : (old new : Writer) (e : Unwritten) → Wrote a (Err e) old new → Wrote (a ++ b) (Err e) old new
  stays_too_long old new e p = record {
    answers = longer e _ _ _ _ _ (omega (arith, length-append (text_of old) a, length-append (text_of old) (a ++ b), length-append a b)) p.answers;
    lender = p.lender;
    room = p.room;
  }

-- a number is written without its last digit, and then with it
pub digit_more : (width n : ℕ) (old mid new : Writer) (r : Result (Unit {0}) Unwritten) → 0 < width → Wrote (digits_of (width - 1) (n / 10)) (Ok tt) old mid → Wrote ((48 + n % 10) ∷ []) r mid new → Wrote (digits_of width n) r old new
digit_more zero n old mid new r some p q = absurd (omega arith)
digit_more (suc before) n old mid new r some p q =
    let same : suc before - 1 ≡ before = omega arith in
    wrote_both (digits_of before (n / 10)) ((48 + n % 10) ∷ []) old mid new r (rw same at p) q

pub no_digit_more : (width n : ℕ) (old new : Writer) (e : Unwritten) → 0 < width → Wrote (digits_of (width - 1) (n / 10)) (Err e) old new → Wrote (digits_of width n) (Err e) old new
no_digit_more zero n old new e some p = absurd (omega arith)
no_digit_more (suc before) n old new e some p =
    let same : suc before - 1 ≡ before = omega arith in
    stays_too_long (digits_of before (n / 10)) ((48 + n % 10) ∷ []) old new e (rw same at p)
