-- What is read of the templates by an index.
use Rattle.std.proofs.Common.{◌≡◌, ℕ, zero, suc, ◌+◌, ◌-◌, ◌*◌, ◌<◌, ◌≤◌, true, List, [], ◌∷◌, length, get_or, take, drop, Some, None, vec_items, sym, ap, subst, ◌∙◌, ap₂, ⊎_elim, arith}
use mathlib.Core.Option.{some}
use Rattle.std.specs.declared.option.Option as code_option
use Rattle.std.specs.List.{slice_get}
use Rattle.std.specs.Borrow.{Bor}
use Rattle.std.specs.Option.{option_copied}
use Rattle.std.specs.Slice.{IsItemAt}
use Rattle.std.proofs.lemmas.Grind.{common_steps}
use Rattle.std.proofs.lemmas.Option.{slice_get_past, slice_get-get_or}
use Rattle.std.proofs.lemmas.List.{length-take-le, take-take, drop-take, drop-drop}
use Rattle.std.proofs.lemmas.Bool.{and_parts, cases_lt}
use Rattle.std.specs.Cmp.Lexicographic.{bytes_decides}
use Rattle.meaning.specs.Fault.{Fault}
use Rattle.meaning.specs.Names.{name_of}
use Rattle.meaning.specs.Or.{Or, gives}
use Rattle.meaning.specs.Reading.{Template}
use Rattle.meaning.specs.Tree.{Scope}
use Rattle.meaning.specs.Value.{Text}
use Rattle.packing.specs.Unpacking.{unpack}
use Rattle.program.specs.Program as program
use Rattle.checker.specs.Whole.{unpacks}
use Rattle.checker.proofs.WholeThere.{template_scope}
use Rattle.compiler.specs.declared.instr.Instr.{Instr}
use Rattle.templates.specs.Entries.{source_of, tree_of, records_of, scope_of, template_of, trees, means, sound, Located}
use Rattle.templates.specs.Held.{entries_of, templates_of, name_at, template_at, tree_at, FewInstrs, Finds, Fetches}
use Rattle.templates.specs.declared.entry.Entry.{Entry}
use Rattle.templates.specs.declared.table.Templates.{Templates}
use Rattle.templates.proofs.Kept.{source_there, tree_there, records_there, sound_at}
use Rattle.templates.proofs.Meanings.{means_fetches}
use Rattle.templates.proofs.Names.{held_length, held_at, find_first, find_none}

-- what unpacked is the tree of the template
pub unpacked : (source tree : List ℕ) → unpacks source tree ≡ true → unpack source tree ≡ gives (scope_of (unpack source tree))
unpacked source tree ok =
    let found = template_scope source tree ok in found.1 ∙ ap (λ (o : Or Fault Scope). gives (scope_of o)) (sym found.1)

trees_at : (bytes : List ℕ) (es : List Entry) (i : ℕ) (e : Entry) → i < length es → e ≡ get_or es i e → get_or (trees bytes es) i [] ≡ tree_of bytes e
trees_at bytes [] i e h is = absurd (omega arith)
trees_at bytes (x ∷ es) zero e h is = cc
trees_at bytes (x ∷ es) (suc i) e h is = trees_at bytes es i e (omega arith) is

-- what a list begins with from an index on stands there
at_of : (es : List Entry) (i : ℕ) (e : Entry) → drop i es ≡ e ∷ drop (suc i) es → e ≡ get_or es i e
at_of es i e is = grind (arith, common_steps)

-- a part that is lent
pub lent : {A : Type 0} (xs ys : List A) (start size : ℕ) → xs ≡ ys → take (start + size - start) (drop start xs) ≡ take size (drop start ys)
lent xs ys start size e = grind arith

-- an element that is lent, if there is one
pub item_is : {A : Type 0} (xs : List A) (i : ℕ) (r : code_option.Option (Bor A)) → IsItemAt xs i r → option_copied r ≡ slice_get xs i
item_is xs i None h = sym (slice_get_past xs i h.3)
item_is xs i (Some x) h = ap Some h.1 ∙ sym (slice_get-get_or xs i x.now h.3.0)

short : {A : Type 0} (n : ℕ) (xs : List A) → length (take n xs) ≤ n
short n xs = grind (arith, common_steps)

any_few : (pc : ℕ) (r : code_option.Option Instr) → pc < 1024 → FewInstrs pc r
any_few pc None few = tt
any_few pc (Some i) few = few

-- an instruction of an entry that there is
pub few_instrs : (e : Entry) (xs : List Instr) (pc : ℕ) (r : code_option.Option Instr) → r ≡ slice_get (take e.len xs) pc → FewInstrs pc r
few_instrs e xs pc r got =
    ⊎_elim
    (λ (within : pc < length (take e.len xs)). any_few pc r (omega (arith, within, short e.len xs, e.program)))
    (λ (past : length (take e.len xs) ≤ pc). subst (FewInstrs pc) (sym (got ∙ slice_get_past (take e.len xs) pc past)) tt)
    (cases_lt pc (length (take e.len xs)))

module _ (t : Templates) where
  pub used : length (entries_of t) ≡ t.count
  used = length-take-le t.count t.entries (omega arith)

  pub counted : length (templates_of t) ≡ t.count
  counted = held_length (vec_items t.bytes) (entries_of t) ∙ used

  module _ (i : ℕ) (e : Entry) (h : i < length (entries_of t)) (is : e ≡ get_or (entries_of t) i e) where
    abbrev source : List ℕ
    source = source_of (vec_items t.bytes) e

    abbrev tree : List ℕ
    tree = tree_of (vec_items t.bytes) e

    abbrev records : List Instr
    records = records_of (vec_items t.instrs) e

    pub name_is : name_at (templates_of t) i ≡ name_of e.name
    name_is = ap (λ (x : Text × Template). x.0) (held_at (vec_items t.bytes) (entries_of t) i e _ h is)

    pub template_is : template_at (templates_of t) i ≡ template_of (vec_items t.bytes) e
    template_is = ap (λ (x : Text × Template). x.1) (held_at (vec_items t.bytes) (entries_of t) i e _ h is)

    pub tree_is : tree_at t i ≡ tree_of (vec_items t.bytes) e
    tree_is = trees_at (vec_items t.bytes) (entries_of t) i e h is

    both : (unpacks source tree ≡ true) × (means tree records (program.compile (scope_of (unpack source tree))) ≡ true)
    unfolding sound
    both = and_parts _ _ (sound_at (vec_items t.bytes) (vec_items t.instrs) (entries_of t) i e h is t.sound)

    pub tree_unpacks : unpack (template_at (templates_of t) i).source (tree_at t i) ≡ gives (template_at (templates_of t) i).tree
    tree_unpacks =
        ap₂ unpack (ap (λ (x : Template). x.source) template_is) tree_is ∙ unpacked source tree both.0
        ∙ ap (λ (x : Template). gives x.tree) (sym template_is)

    -- the slices that are lent
    pub source_read : take e.source_len (drop (e.place * 16384) (vec_items t.bytes)) ≡ (template_at (templates_of t) i).source
    source_read = sym (source_there (vec_items t.bytes) e) ∙ ap (λ (x : Template). x.source) (sym template_is)

    pub tree_read : take e.tree_len (drop (e.place * 16384 + 8192) (vec_items t.bytes)) ≡ tree_at t i
    tree_read = sym (tree_is ∙ tree_there (vec_items t.bytes) e)

    -- the program
    abbrev code : List program.Instr
    code = program.compile (template_at (templates_of t) i).tree

    meant : means (tree_at t i) records code ≡ true
    meant =
        ap₂ (λ (s : List ℕ) (x : Template). means s records (program.compile x.tree)) tree_is template_is ∙ both.1

    pub fetched : (pc : ℕ) (r : code_option.Option Instr) → r ≡ slice_get (take e.len (drop (e.place * 1024) (vec_items t.instrs))) pc →
        Fetches (tree_at t i) (program.compile (template_at (templates_of t) i).tree) pc r
    fetched pc r got =
        subst (Fetches (tree_at t i) code pc)
        (ap (λ (xs : List Instr). slice_get xs pc) (records_there (vec_items t.instrs) e) ∙ sym got)
        (means_fetches (tree_at t i) records code meant pc)

  -- a name that was located
  pub finds : (name : Text) (r : code_option.Option ℕ) → Located name (entries_of t) r → Finds (templates_of t) name r
  finds name None none_of = find_none (vec_items t.bytes) name (entries_of t) none_of
  finds name (Some i) f =
      let bytes = vec_items t.bytes in
      let es = entries_of t in
      let is : f.entry ≡ get_or es i f.entry = at_of es i f.entry f.is in
      (omega (arith, held_length bytes es, f.within), name_is i f.entry f.within is ∙ sym ((bytes_decides name (name_of f.entry.name)).0 f.has), find_first bytes name es i f ∙ ap some (sym (template_is i f.entry f.within is)))
