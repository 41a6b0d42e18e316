-- What an expression costs, wherever it is read.
use Rattle.std.proofs.Common.{◌≡◌, ℕ, ◌+◌, ◌≤◌, Bool, true, false, cond, List, [], ◌∷◌, map as each, sym, refl, ap, ◌∙◌, add_assoc, add-zero, arith}
use Rattle.meaning.specs.Or.{Or, fails, gives}
use Rattle.meaning.specs.Step.{from, continue}
use Rattle.meaning.specs.Value.{Items, no_items, Entries, no_entries}
use Rattle.meaning.specs.declared.tree.Span.{Span}
use Rattle.meaning.specs.Tree.{Expr, Base, Filter, BaseExpr, Variable, Literal, ListOf, MapOf, Paren, Call, Args, no_args, arg, Pairs, no_pairs, pair}
use Rattle.meaning.specs.Spans.{text_at, var_span, value_span}
use Rattle.meaning.specs.declared.fault.Cause.TheVariants.{StoreFull}
use Rattle.meaning.specs.Fault.{Fault, fault_at}
use Rattle.meaning.specs.Parts.{append, insert}
use Rattle.meaning.specs.Charge.{Charge, free, one_cell, cell_and_text, cost, within, ◌⊕◌, Make, charge}
use Rattle.meaning.specs.Hosts.{Hosts, Callable, nothing, formatter, function, Function}
use Rattle.meaning.specs.Scopes.{Visible, look_up}
use Rattle.meaning.specs.Reading.{Templates, Setting}
use Rattle.meaning.specs.Expressions.{Argument, answer_at, ask_function, apply, read_expr, read_base, read_args, read_items, read_pairs}
use Rattle.meaning.proofs.Answers.{never_gives, same_answer}
use Rattle.laws.specs.Tally.{ExpressionsHaveACost}
use Rattle.laws.proofs.Tally.{fit_both, both_fit}

-- CHARGES

added_twice : (a b c : Charge) → (a ⊕ b) ⊕ c ≡ a ⊕ (b ⊕ c)
added_twice a b c = λ i. record { cells = add_assoc a.cells b.cells c.cells i; bytes = add_assoc a.bytes b.bytes c.bytes i }

nothing_added : (a : Charge) → a ⊕ free ≡ a
nothing_added a = λ i. record { cells = add-zero a.cells i; bytes = add-zero a.bytes i }

first_fits : (supply used a b : Charge) → within supply (used ⊕ (a ⊕ b)) ≡ true → within supply (used ⊕ a) ≡ true
first_fits supply used a b e =
    let whole : (used.cells + (a.cells + b.cells) ≤ supply.cells) × (used.bytes + (a.bytes + b.bytes) ≤ supply.bytes) =
    fit_both supply (used ⊕ (a ⊕ b)) e in
    both_fit supply (used ⊕ a) (less used.cells a.cells b.cells supply.cells whole.0) (less used.bytes a.bytes b.bytes supply.bytes whole.1)
  where
    less : (n m k l : ℕ) → n + (m + k) ≤ l → n + m ≤ l
    less n m k l h = omega arith

-- STEPS

-- a making under any supply
abbrev Making : Type 0 → Type 0
Making A = (supply : Charge) → Make A

-- it gives this, with so much added, wherever there is room
pub record GivesFor {A : Type 0} (m : Making A) (used : Charge) (a : A) (held : Charge) : Type 0 where
  pub added : Charge
  pub adds : held ≡ used ⊕ added
  pub again : (supply used' : Charge) → within supply (used' ⊕ added) ≡ true → m supply used' ≡ gives (a, used' ⊕ added)

-- whatever it gives
abbrev Steady : {A : Type 0} → Making A → Type 0
Steady {A} m = (supply used : Charge) (a : A) (held : Charge) → m supply used ≡ gives (a, held) → GivesFor m used a held

charge_steady : {A : Type 0} (span : Span) (more : Charge) (a : A) → Steady (λ supply. charge supply span more a)
charge_steady {A} span more a supply used b held e = by (within supply (used ⊕ more)) e
  where
    again : (supply used' : Charge) → within supply (used' ⊕ more) ≡ true → charge supply span more a used' ≡ gives (a, used' ⊕ more)
    again supply used' fits =
        ap (λ (x : Bool). let answer : Or Fault (A × Charge) = cond x (gives (a, used' ⊕ more)) (fails (fault_at StoreFull span 0)) in answer) fits

    by : (x : Bool) → ◌≡◌ {A = Or Fault (A × Charge)} (cond x (gives (a, used ⊕ more)) (fails (fault_at StoreFull span 0))) (gives (b, held)) →
        GivesFor (λ supply. charge supply span more a) used b held
    by true f =
        same_answer (λ (w : A × Charge). GivesFor (λ supply. charge supply span more a) used w.0 w.1) f
        (record { added = more; adds = refl; again = again })
    by false f = absurd (never_gives f)

from_steady : {A : Type 0} (o : Or Fault A) → Steady (λ supply. from o)
from_steady {A} (fails f) supply used a held e = absurd (never_gives e)
from_steady {A} (gives b) supply used a held e =
    same_answer (λ (w : A × Charge). GivesFor (λ supply. from (gives b)) used w.0 w.1) e
    (record {
      added = free;
      adds = sym (nothing_added used);
      again = λ supply' used' fits. ap (λ (c : Charge). let answer : Or Fault (A × Charge) = gives (b, c) in answer) (sym (nothing_added used'));
    })

then_steady : {A B : Type 0} (m : Making A) (next : A → Making B) → Steady m → ((a : A) → Steady (next a)) →
    Steady (λ supply used. continue (m supply used) (λ a. next a supply))
then_steady {A} {B} m next first second supply used b held e = by (m supply used) refl e
  where
    both : Making B
    both = λ supply used. continue (m supply used) (λ a. next a supply)

    joined : (a : A) (h : Charge) → m supply used ≡ gives (a, h) → next a supply h ≡ gives (b, held) → GivesFor both used b held
    joined a h e f =
        let one : GivesFor m used a h = first supply used a h e in
        let two : GivesFor (next a) h b held = second a supply h b held f in
        record {
          added = one.added ⊕ two.added;
          adds = two.adds ∙ ap (λ (c : Charge). c ⊕ two.added) one.adds ∙ added_twice used one.added two.added;
          again = λ supply' used' fits.
              ap (λ (r : Or Fault (A × Charge)). continue r (λ a. next a supply')) (one.again supply' used' (first_fits supply' used' one.added two.added fits))
              ∙ two.again supply' (used' ⊕ one.added) (ap (within supply') (added_twice used' one.added two.added) ∙ fits)
              ∙ ap (λ (c : Charge). let answer : Or Fault (B × Charge) = gives (b, c) in answer) (added_twice used' one.added two.added);
        }

    by : (r : Or Fault (A × Charge)) → m supply used ≡ r → continue r (λ a. next a supply) ≡ gives (b, held) → GivesFor both used b held
    by (fails f) e f' = absurd (never_gives f')
    by (gives (a, h)) e f' = joined a h e f'

-- EXPRESSIONS

module _ (hosts : Hosts) (templates : Templates) (source : List ℕ) (visible : List Visible) where
  abbrev under : Charge → Setting
  under supply = record { supply = supply; templates = templates; hosts = hosts }

  asked_steady : (f : Function) (call whole : Span) (args : List Argument) → Steady (λ supply. ask_function supply f call whole args)
  asked_steady f call whole args =
      then_steady (λ supply. from (answer_at call args (f (each (λ a. a.0) args)))) (λ v supply. charge supply whole (cost v) v)
      (from_steady (answer_at call args (f (each (λ a. a.0) args)))) λ v. charge_steady whole (cost v) v

  -- where every name stands for the same
  abbrev calling : Callable → Charge → Setting
  calling c supply = record { supply = supply; templates = templates; hosts = record { callables = λ name. c; default_formatter = hosts.default_formatter } }

  applied_steady : (name whole : Span) (args : List Argument) → Steady (λ supply. apply (under supply) source visible name whole args)
  applied_steady name whole args = by (hosts.callables (text_at source name))
    where
      by : (c : Callable) → Steady (λ supply. apply (calling c supply) source visible name whole args)
      by nothing = λ supply used a held e. absurd (never_gives e)
      by (formatter f) = λ supply used a held e. absurd (never_gives e)
      by (function f) = asked_steady f whole whole args

  return_steady : {A : Type 0} (a : A) → Steady {A = A} (λ supply used. gives (a, used))
  return_steady a = from_steady (gives a)

  mutual
    unfolding read_expr

    pub expr_steady : (e : Expr) → Steady (λ supply. read_expr (under supply) source visible e)
    expr_steady (Base b) = base_steady b
    expr_steady (Filter name whole receiver args) =
        then_steady (λ supply. read_expr (under supply) source visible receiver) _ (expr_steady receiver) λ v.
        then_steady (λ supply. read_args (under supply) source visible args) _ (args_steady args) λ vs.
        applied_steady name whole ((v, value_span receiver) ∷ vs)

    base_steady : (b : BaseExpr) → Steady (λ supply. read_base (under supply) source visible b)
    base_steady (Variable v) =
        then_steady (λ supply. from (look_up source visible v)) _ (from_steady (look_up source visible v)) λ had.
        charge_steady (var_span v) had.1 had.0
    base_steady (Literal span v) = charge_steady span (cost v) v
    base_steady (ListOf span items) =
        then_steady (λ supply. charge supply span one_cell no_items) _ (charge_steady span one_cell no_items) λ empty.
        then_steady (λ supply. read_items (under supply) source visible items span empty) _ (items_steady items span empty) λ full.
        return_steady _
    base_steady (MapOf span pairs) =
        then_steady (λ supply. charge supply span one_cell no_entries) _ (charge_steady span one_cell no_entries) λ empty.
        then_steady (λ supply. read_pairs (under supply) source visible pairs span empty) _ (pairs_steady pairs span empty) λ full.
        return_steady _
    base_steady (Paren span e) = expr_steady e
    base_steady (Call name whole args) =
        then_steady (λ supply. read_args (under supply) source visible args) _ (args_steady args) λ vs.
        applied_steady name whole vs

    args_steady : (args : Args) → Steady (λ supply. read_args (under supply) source visible args)
    args_steady no_args = return_steady []
    args_steady (arg b rest) =
        then_steady (λ supply. read_base (under supply) source visible b) _ (base_steady b) λ v.
        then_steady (λ supply. read_args (under supply) source visible rest) _ (args_steady rest) λ vs.
        return_steady _

    items_steady : (args : Args) (span : Span) (so_far : Items) → Steady (λ supply. read_items (under supply) source visible args span so_far)
    items_steady no_args span so_far = return_steady so_far
    items_steady (arg b rest) span so_far =
        then_steady (λ supply. read_base (under supply) source visible b) _ (base_steady b) λ v.
        then_steady (λ supply. charge supply span one_cell (append so_far v)) _ (charge_steady span one_cell (append so_far v)) λ more.
        items_steady rest span more

    pairs_steady : (pairs : Pairs) (span : Span) (so_far : Entries) → Steady (λ supply. read_pairs (under supply) source visible pairs span so_far)
    pairs_steady no_pairs span so_far = return_steady so_far
    pairs_steady (pair k b rest) span so_far =
        then_steady (λ supply. read_base (under supply) source visible b) _ (base_steady b) λ v.
        then_steady (λ supply. charge supply span (cell_and_text k.text) (insert k.text v so_far)) _
        (charge_steady span (cell_and_text k.text) (insert k.text v so_far)) λ more.
        pairs_steady rest span more

pub expressions_have_a_cost : ExpressionsHaveACost
expressions_have_a_cost at e v held gave =
    let it = expr_steady at.setting.hosts at.setting.templates at.source at.visible e at.setting.supply at.used v held gave in
    (it.added, it.adds, it.again)
