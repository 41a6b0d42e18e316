use Rattle.std.proofs.Common.{◌≡◌, ◌↔◌, Bool, true, Ok, Err, Result, MatchResult, sym, ◌∙◌}
use Rattle.std.specs.Result.{is_ok}
use Rattle.packing.proofs.Grammar.{grammar_is_std}
use Rattle.reader.proofs.Texts.{not_true}
use Rattle.reader.proofs.text.is_text.Goals as goal

decides : {A E P : Type 0} (r : Result A E) (Q : A → Type 0) (R : E → Type 0) (b : Bool) → ((b ≡ true) ↔ P) → MatchResult r (λ a. Q a × P) (λ e. (P → ⊥) × R e) → is_ok r ≡ b
decides (Ok a) Q R b same told = sym (same.1 told.1)
decides (Err e) Q R b same told = sym (not_true b (λ t. told.0 (same.0 t)))

pub returns : goal.returns
returns c = c.is_ok.ensures.value ∙ decides c.from_utf8.result _ _ _ (grammar_is_std c.args.bytes.now) c.from_utf8.ensures.cases
