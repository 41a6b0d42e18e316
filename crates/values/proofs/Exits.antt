-- What is left at the exit of a `?` where nothing was read: the refusal that was named.
use Rattle.std.proofs.Common.{◌≡◌, Err, None, Option, Result, ap, ◌∙◌}
use Rattle.std.proofs.lemmas.Result.{err_from_is_err_and}
use Rattle.std.specs.Option.{ok_or}
use Rattle.std.specs.Result.{IsErrAnd}
use Rattle.reader.specs.declared.refusal.Refusal.{Refusal}

pub refused_with : {A T : Type 0} (r : Result T Refusal) {o : Option A} {left refusal : Refusal} → IsErrAnd r (λ e. e ≡ left) → ◌≡◌ {A = Result A Refusal} (Err left) (ok_or o refusal) → o ≡ None → r ≡ Err refusal
refused_with {A} {T} r {o} {left} {refusal} out is none =
    let p = err_from_is_err_and r out in
    p.1 ∙ ap Err (p.2 ∙ same (rw none at is))
  where
    same : ◌≡◌ {A = Result A Refusal} (Err left) (Err refusal) → left ≡ refusal
    same e = cc
