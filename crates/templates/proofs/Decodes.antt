-- Instructions whose codes are the same are equal: an instruction is got back from its code.
use Rattle.std.proofs.Common.{◌≡◌, ℕ, Bool, true, false, List, [], ◌∷◌, get_or, ℤ, pos, negsuc, sym, refl, ap, ◌∙◌, ap₂}
use Rattle.std.proofs.lemmas.Bool.{eqb-true, eq-eqb, and_parts, and_from, false≢true}
use Rattle.meaning.specs.Value.{Value, Items, Entries, Text, none, boolean, integer, float, string, list, map, no_items, item, no_entries, entry}
use Rattle.meaning.specs.Tree.{String, Var, LoopVars, Item, KeyValue}
use Rattle.meaning.specs.declared.tree.Access.{Access}
use Rattle.meaning.specs.declared.tree.Access.TheVariants.{Index, Key}
use Rattle.meaning.specs.declared.tree.AccessOp.{AccessOp}
use Rattle.meaning.specs.declared.tree.AccessOp.TheVariants.{Direct, Optional}
use Rattle.meaning.specs.declared.tree.Member.{Member}
use Rattle.meaning.specs.declared.tree.Span.{Span}
use Rattle.program.specs.Program.{Instr, Jump, JumpIfTrue, JumpIfFalse, Emit, EmitRaw, EmitWith, LoopStart, LoopNext, WithStart, WithEnd, Include, IncludeWith, ExprStartVar, ExprStartLiteral, ExprStartList, ExprStartMap, ExprListPush, ExprMapInsert, Apply}
use Rattle.templates.specs.Codes.{Code, leaf, pair, same, text_code, bool_code, int_code, value_code, items_code, entries_code, span_code, op_code, access_code, member_code, members_code, var_code, string_code, loop_code, callee_code, instr_code}

-- CODES

pub same_itself : (c : Code) → same c c ≡ true
unfolding same
same_itself (leaf n) = eq-eqb n n refl
same_itself (pair a b) = and_from (same a a) (same b b) (same_itself a) (same_itself b)

pub same_equal : (c d : Code) → same c d ≡ true → c ≡ d
unfolding same
same_equal (leaf m) (leaf n) e = ap leaf (eqb-true m n e)
same_equal (leaf m) (pair c d) e = absurd (false≢true e)
same_equal (pair a b) (leaf n) e = absurd (false≢true e)
same_equal (pair a b) (pair c d) e =
    let both = and_parts (same a c) (same b d) e in ap₂ pair (same_equal a c both.0) (same_equal b d both.1)

-- BACK FROM A CODE

abbrev number : Code → ℕ
number (leaf n) = n
number (pair a b) = 0

abbrev first : Code → Code
first (leaf n) = leaf n
first (pair a b) = a

abbrev second : Code → Code
second (leaf n) = leaf n
second (pair a b) = b

abbrev text : Code → Text
text (leaf n) = []
text (pair a b) = number a ∷ text b

abbrev bool : Code → Bool
bool c = get_or (false ∷ true ∷ []) (number c) false

abbrev int : Code → ℤ
int c = get_or (pos (number (second c)) ∷ negsuc (number (second c)) ∷ []) (number (first c)) (pos 0)

abbrev mutual
  value : Code → Value
  value (leaf n) = none
  value (pair tag c) =
      get_or (none ∷ boolean (bool c) ∷ integer (int c) ∷ float (number c) ∷ string (text c) ∷ list (items c) ∷ map (entries c) ∷ []) (number tag) none

  items : Code → Items
  items (leaf n) = no_items
  items (pair a b) = item (value a) (items b)

  entries : Code → Entries
  entries (leaf n) = no_entries
  entries (pair a (leaf n)) = no_entries
  entries (pair a (pair b c)) = entry (text a) (value b) (entries c)

abbrev span : Code → Span
span c = record { start = number (first c); end = number (second c) }

abbrev op : Code → AccessOp
op c = get_or (Direct ∷ Optional ∷ []) (number c) Direct

abbrev access : Code → Access
access c = get_or (Index (number (first (second c))) (span (second (second c))) ∷ Key (span (second c)) ∷ []) (number (first c)) (Key (span c))

abbrev member : Code → Member
member c = record { op = op (first c); access = access (first (second c)); span = span (second (second c)) }

abbrev members : Code → List Member
members (leaf n) = []
members (pair a b) = member a ∷ members b

abbrev var : Code → Var
var c = record { first = member (first c); rest = members (second c) }

abbrev string_of : Code → String
string_of c = record { span = span (first c); text = text (second c) }

abbrev loop : Code → LoopVars
loop c =
    get_or (Item (span (second c)) ∷ KeyValue (span (first (second c))) (span (first (second (second c)))) (span (second (second (second c)))) ∷ []) (number (first c)) (Item (span c))

abbrev instr : Code → Instr
instr (leaf n) = Emit
instr (pair tag c) =
    let target = number c in
    let arity = number (first (second c)) in
    let whole = span (second (second c)) in
    get_or
    (Jump target ∷ JumpIfTrue target ∷ JumpIfFalse target ∷ Emit ∷ EmitRaw (span c) ∷ EmitWith (span (first c)) arity whole
    ∷ LoopStart (loop (first c)) (span (second c)) ∷ LoopNext target ∷ WithStart (span c) ∷ WithEnd ∷ Include (string_of c)
    ∷ IncludeWith (string_of c) ∷ ExprStartVar (var c) ∷ ExprStartLiteral (span (first c)) (value (second c)) ∷ ExprStartList (span c)
    ∷ ExprStartMap (span c) ∷ ExprListPush ∷ ExprMapInsert (string_of c) ∷ Apply (span (first c)) arity whole ∷ [])
    (number tag) Emit

text_back : (t : Text) → text (text_code t) ≡ t
unfolding text_code
text_back [] = refl
text_back (b ∷ t) = ap (λ (x : Text). b ∷ x) (text_back t)

bool_back : (b : Bool) → bool (bool_code b) ≡ b
unfolding bool_code
bool_back false = refl
bool_back true = refl

int_back : (n : ℤ) → int (int_code n) ≡ n
unfolding int_code
int_back (pos n) = refl
int_back (negsuc n) = refl

mutual
  unfolding value_code items_code entries_code

  value_back : (v : Value) → value (value_code v) ≡ v
  value_back none = refl
  value_back (boolean b) = ap boolean (bool_back b)
  value_back (integer n) = ap integer (int_back n)
  value_back (float bits) = refl
  value_back (string t) = ap string (text_back t)
  value_back (list vs) = ap list (items_back vs)
  value_back (map vs) = ap map (entries_back vs)

  items_back : (vs : Items) → items (items_code vs) ≡ vs
  items_back no_items = refl
  items_back (item v vs) = ap₂ item (value_back v) (items_back vs)

  entries_back : (vs : Entries) → entries (entries_code vs) ≡ vs
  entries_back no_entries = refl
  entries_back (entry k v vs) = λ i. entry (text_back k i) (value_back v i) (entries_back vs i)

span_back : (s : Span) → span (span_code s) ≡ s
unfolding span_code
span_back s = refl

op_back : (o : AccessOp) → op (op_code o) ≡ o
unfolding op_code
op_back Direct = refl
op_back Optional = refl

access_back : (a : Access) → access (access_code a) ≡ a
unfolding access_code span_code
access_back (Index n s) = refl
access_back (Key s) = refl

member_back : (m : Member) → member (member_code m) ≡ m
unfolding member_code span_code
member_back m = λ i. record { op = op_back m.op i; access = access_back m.access i; span = m.span }

members_back : (ms : List Member) → members (members_code ms) ≡ ms
unfolding members_code
members_back [] = refl
members_back (m ∷ ms) = λ i. member_back m i ∷ members_back ms i

var_back : (v : Var) → var (var_code v) ≡ v
unfolding var_code
var_back v = λ i. record { first = member_back v.first i; rest = members_back v.rest i }

string_back : (s : String) → string_of (string_code s) ≡ s
unfolding string_code span_code
string_back s = λ i. record { span = s.span; text = text_back s.text i }

loop_back : (vars : LoopVars) → loop (loop_code vars) ≡ vars
unfolding loop_code span_code
loop_back (Item s) = refl
loop_back (KeyValue k v both) = refl

instr_back : (x : Instr) → instr (instr_code x) ≡ x
unfolding instr_code callee_code span_code
instr_back (Jump target) = refl
instr_back (JumpIfTrue target) = refl
instr_back (JumpIfFalse target) = refl
instr_back Emit = refl
instr_back (EmitRaw s) = refl
instr_back (EmitWith name arity whole) = refl
instr_back (LoopStart vars s) = ap (λ (v : LoopVars). LoopStart v s) (loop_back vars)
instr_back (LoopNext target) = refl
instr_back (WithStart name) = refl
instr_back WithEnd = refl
instr_back (Include name) = ap Include (string_back name)
instr_back (IncludeWith name) = ap IncludeWith (string_back name)
instr_back (ExprStartVar v) = ap ExprStartVar (var_back v)
instr_back (ExprStartLiteral s v) = ap (ExprStartLiteral s) (value_back v)
instr_back (ExprStartList s) = refl
instr_back (ExprStartMap s) = refl
instr_back ExprListPush = refl
instr_back (ExprMapInsert key) = ap ExprMapInsert (string_back key)
instr_back (Apply name arity whole) = refl

pub instr_equal : (x y : Instr) → same (instr_code x) (instr_code y) ≡ true → x ≡ y
instr_equal x y e = sym (instr_back x) ∙ ap instr (same_equal (instr_code x) (instr_code y) e) ∙ instr_back y
