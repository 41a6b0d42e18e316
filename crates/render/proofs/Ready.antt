-- What stands where a statement ends that is not stuck: some scope, and no value.
use Rattle.std.proofs.Common.{◌≡◌, ◌<◌, List, [], ◌∷◌, length, refl, arith}
use Rattle.meaning.specs.Charge.{Charge}
use Rattle.machine.specs.Machine.{Next, freed, stuck}
use Rattle.hosts.specs.Answers.{arguments_in}
use Rattle.hosts.specs.declared.answer.Argument.{Argument}
use Rattle.meaning.specs.Hosts.{ValueSource}
use Rattle.meaning.specs.Reading.{Templates}
use Rattle.store.specs.declared.memory.Store.{Store}
use Rattle.scopes.specs.Entries.{entries_in}
use Rattle.scopes.specs.declared.state.Scope.{Scope}

module _ {M : Type 0} (templates : Templates) (s : Store) (from : ValueSource) (next : Charge → Next M) where
  pub clear_where_freed : (es : List Scope) (vs : List Argument)
      → ¬ (freed (entries_in templates s from es) (arguments_in s vs) next ≡ stuck) → (0 < length es) × (vs ≡ [])
  clear_where_freed [] vs goes = absurd (goes refl)
  clear_where_freed (e ∷ es) [] goes = (omega arith, refl)
  clear_where_freed (e ∷ es) (v ∷ vs) goes = absurd (goes refl)
