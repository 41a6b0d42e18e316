-- Which command a byte begins.
use Rattle.std.proofs.Common.{◌≡◌, ℕ, suc, Bool, true, false, cond, eqb, List, [], ◌∷◌, ◌++◌, map, sym, refl, ne_eqb}
use Rattle.packing.specs.Reader.{read, refused, coded, expect}
use Rattle.meaning.specs.Step.{continue}
use mathlib.Core.Option.{Option, some, none}
use Rattle.meaning.specs.declared.fault.Cause.TheVariants.{Malformed}
use Rattle.packing.specs.Commands.{base_code, base_bytes, expr_code, expr_bytes, of_base, filter_byte, stmt_code, scope_code, scope_bytes, stmt, end_byte}
use Rattle.meaning.specs.declared.tree.Span.{Span}
use Rattle.meaning.specs.Tree.{String}
use Rattle.packing.specs.Reader.{byte, command}
use Rattle.meaning.specs.Step.{return}
use Rattle.packing.specs.Commands.{plain_code, plain_bytes, BaseByte, StmtByte}
use Rattle.packing.specs.Unpacking.{string_of}
use Rattle.reader.specs.Heads.{MapHead, map_head, base_fields, base_head, BaseOf, FilterHead, expr_fields, expr_head, callee, stmt_fields, StmtOf, EndHead, scope_fields, scope_head}
use Rattle.reader.specs.AfterByte.{base_after, stmt_after, stmt_bytes, plain_after, plain_head}

-- the byte begins none of these commands
abbrev pub Apart : {K : Type 0} → (K → ℕ) → List K → ℕ → Type 0
Apart code [] b = Unit {0}
Apart code (k ∷ ks) b = (code k ≡ b → ⊥) × Apart code ks b

pub coded_apart : {K : Type 0} (code : K → ℕ) (ks : List K) (b : ℕ) → Apart code ks b → coded code ks b ≡ none
unfolding coded
coded_apart code [] b apart = refl
coded_apart code (k ∷ ks) b apart = rw (ne_eqb (code k) b apart.0) (coded_apart code ks b apart.1)

pub base_unknown : (b at : ℕ) (s : List ℕ) → Apart base_code base_bytes b → refused Malformed at ≡ base_after b at s
unfolding base_after
base_unknown b at s apart = rw (coded_apart base_code base_bytes b apart)

pub stmt_unknown : (b at : ℕ) (s : List ℕ) → Apart stmt_code stmt_bytes b → refused Malformed at ≡ stmt_after b at s
unfolding stmt_after
stmt_unknown b at s apart = rw (coded_apart stmt_code stmt_bytes b apart)

-- A TABLE WITHIN ANOTHER

abbrev pub lifted : {K L : Type 0} → (K → L) → Option K → Option L
lifted f (some k) = some (f k)
lifted f none = none

lift_one : {K L : Type 0} (f : K → L) (same : Bool) (k : K) (o : Option K) → cond same (some (f k)) (lifted f o) ≡ lifted f (cond same (some k) o)
lift_one f true k o = refl
lift_one f false k o = refl

pub coded_lifted : {K L : Type 0} (code : K → ℕ) (wide : L → ℕ) (f : K → L) → ((k : K) → wide (f k) ≡ code k) → (ks : List K) (more : List L) (b : ℕ) → coded wide more b ≡ none → coded wide (map f ks ++ more) b ≡ lifted f (coded code ks b)
unfolding coded
coded_lifted code wide f same [] more b absent = absent
coded_lifted code wide f same (k ∷ ks) more b absent = rw (same k, coded_lifted code wide f same ks more b absent) (lift_one f (eqb (code k) b) k (coded code ks b))

-- WHAT FOLLOWS A BYTE

pub map_keyed : (n k at : ℕ) (s : Span) (name : String) (u v : List ℕ) → n ≡ suc k → read name v ≡ string_of at u → read (MapHead s name k) v ≡ map_head at s n u
map_keyed n k at s name u v keyed e = rw (keyed, sym e)

pub map_cut : (n k at : ℕ) (s : Span) (u : List ℕ) → n ≡ suc k → refused Malformed at ≡ string_of at u → refused Malformed at ≡ map_head at s n u
map_cut n k at s u keyed e = rw (keyed, sym e)

pub base_follows : (b at : ℕ) (s u : List ℕ) → read b u ≡ byte at s → base_after b at u ≡ base_head at s
unfolding base_head base_after command
base_follows b at s u e = rw (sym e)

pub filter_follows : (b at : ℕ) (s u : List ℕ) → read b u ≡ byte at s → b ≡ 22 → continue (callee 7 at u) (λ c. return (FilterHead c.name c.whole c.count)) ≡ expr_head at s
unfolding expr_head expr_fields command coded
filter_follows b at s u e is = rw (sym e, is)

as_expr : (at : ℕ) (u : List ℕ) (o : Option BaseByte) → continue (continue (expect at o u) (base_fields at)) (λ h. return (BaseOf h)) ≡ continue (expect at (lifted of_base o) u) (expr_fields at)
unfolding expr_fields
as_expr at u (some k) = refl
as_expr at u none = refl

pub expr_follows : (b at : ℕ) (s u : List ℕ) → read b u ≡ byte at s → (22 ≡ b → ⊥) → continue (base_after b at u) (λ h. return (BaseOf h)) ≡ expr_head at s
unfolding expr_head base_after command
expr_follows b at s u e other =
    let absent = coded_apart expr_code (filter_byte ∷ []) b (other, tt) in
    let found_as : coded expr_code expr_bytes b ≡ lifted of_base (coded base_code base_bytes b) = coded_lifted base_code expr_code of_base (λ k. refl) base_bytes (filter_byte ∷ []) b absent in
    rw (sym e, found_as) (as_expr at u (coded base_code base_bytes b))

pub end_follows : (b at : ℕ) (s u : List ℕ) → read b u ≡ byte at s → b ≡ 10 → read EndHead u ≡ scope_head at s
unfolding scope_head scope_fields command coded
end_follows b at s u e is = rw (sym e, is)

as_stmt : (at : ℕ) (u : List ℕ) (o : Option StmtByte) → continue (continue (expect at o u) (stmt_fields at)) (λ h. return (StmtOf h)) ≡ continue (expect at (lifted stmt o) u) (scope_fields at)
unfolding scope_fields
as_stmt at u (some k) = refl
as_stmt at u none = refl

pub stmt_follows : (b at : ℕ) (s u : List ℕ) → read b u ≡ byte at s → (10 ≡ b → ⊥) → continue (stmt_after b at u) (λ h. return (StmtOf h)) ≡ scope_head at s
unfolding scope_head stmt_after command
stmt_follows b at s u e other =
    let absent = coded_apart scope_code (end_byte ∷ []) b (other, tt) in
    let found_as : coded scope_code scope_bytes b ≡ lifted stmt (coded stmt_code stmt_bytes b) = coded_lifted stmt_code scope_code stmt (λ k. refl) stmt_bytes (end_byte ∷ []) b absent in
    rw (sym e, found_as) (as_stmt at u (coded stmt_code stmt_bytes b))

pub plain_unknown : (b at : ℕ) (s : List ℕ) → Apart plain_code plain_bytes b → refused Malformed at ≡ plain_after b at s
unfolding plain_after
plain_unknown b at s apart = rw (coded_apart plain_code plain_bytes b apart)

pub plain_follows : (b at : ℕ) (s u : List ℕ) → read b u ≡ byte at s → plain_after b at u ≡ plain_head at s
unfolding plain_head plain_after command
plain_follows b at s u e = rw (sym e)
