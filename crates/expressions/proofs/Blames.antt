-- The argument that a refusal blames, among what the arguments stand for.
use Rattle.std.proofs.Common.{◌≡◌, ℕ, suc, zero, ◌<◌, ◌≤◌, List, [], ◌∷◌, length, get_or, refl, sym, ap, ◌∙◌, arith}
use Rattle.std.proofs.Math.Option.{some}
use Rattle.std.specs.declared.option.Option.{Option as Given}
use Rattle.std.specs.declared.option.Option.TheVariants.{Some}
use Rattle.meaning.specs.Expressions.{blamed}
use Rattle.meaning.specs.FaultRecords.{given}
use Rattle.meaning.specs.declared.tree.Span.{Span}
use Rattle.store.specs.declared.memory.Store.{Store}
use Rattle.hosts.specs.Answers.{arguments_in}
use Rattle.hosts.specs.declared.answer.Argument.{Argument}

there : (s : Store) (args : List Argument) (n : ℕ) (d : Argument) (call : Span) → n < length args → (get_or args n d).span ≡ blamed (some n) (arguments_in s args) call
there s [] n d call h = absurd (omega arith)
there s (a ∷ args) zero d call h = refl
there s (a ∷ args) (suc n) d call h = there s args n d call (omega arith)

not_there : (s : Store) (args : List Argument) (n : ℕ) (call : Span) → length args ≤ n → call ≡ blamed (some n) (arguments_in s args) call
not_there s [] n call h = refl
not_there s (a ∷ args) zero call h = absurd (omega arith)
not_there s (a ∷ args) (suc n) call h = not_there s args n call (omega arith)

module _ (s : Store) (args : List Argument) (argument : Given ℕ) (n : ℕ) (call : Span) (is : argument ≡ Some n) where
  as_given : blamed (some n) (arguments_in s args) call ≡ blamed (given (λ k. k) argument) (arguments_in s args) call
  as_given = sym (ap (λ (o : Given ℕ). blamed (given (λ (k : ℕ). k) o) (arguments_in s args) call) is)

  pub blames_an_argument : (d : Argument) → n < length args → (get_or args n d).span ≡ blamed (given (λ k. k) argument) (arguments_in s args) call
  blames_an_argument d h = there s args n d call h ∙ as_given

  pub blames_the_call : length args ≤ n → call ≡ blamed (given (λ k. k) argument) (arguments_in s args) call
  blames_the_call h = not_there s args n call h ∙ as_given
