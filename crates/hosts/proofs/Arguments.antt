-- What arguments stand for stays where the store grows.
use Rattle.std.proofs.Common.{◌≡◌, List, [], ◌∷◌, refl, ap₂}
use Rattle.meaning.specs.Value.{Value}
use Rattle.meaning.specs.Expressions.{Argument as Meant}
use Rattle.store.specs.Stores.{Over}
use Rattle.store.specs.declared.memory.Store.{Store}
use Rattle.store.proofs.Stores.{known_over}
use Rattle.hosts.specs.Answers.{AllKnown, arguments_in}
use Rattle.hosts.specs.declared.answer.Argument.{Argument}

pub all_known_over : (a b : Store) (args : List Argument) → Over a b → AllKnown a args → AllKnown b args
all_known_over a b [] o k = tt
all_known_over a b (x ∷ args) o k = (known_over a b x.value o k.0, all_known_over a b args o k.1)

pub arguments_over : (a b : Store) (args : List Argument) → Over a b → AllKnown a args → arguments_in b args ≡ arguments_in a args
arguments_over a b [] o k = refl
arguments_over a b (x ∷ args) o k =
    ap₂ (λ (v : Value) (rest : List Meant). (v, x.span) ∷ rest) (o.keeps x.value k.0) (arguments_over a b args o k.1)
