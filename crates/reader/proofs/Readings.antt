-- The bytes left at a position, and what is read of them.
use Rattle.std.proofs.Common.{◌≡◌, ℕ, zero, suc, ◌+◌, ◌-◌, ◌*◌, ◌<◌, ◌≤◌, List, [], ◌∷◌, length, get_or, take, drop, Some, None, Option, sym, refl, add-one, arith, length-drop, drop_of_length-le, get_or-drop, drop-cons, drop-drop, lt-ltb, ◌∙◌}
use Rattle.std.proofs.lemmas.List.{take_all}
use Rattle.std.specs.List.{slice_range}
use Rattle.reader.specs.Fields.{Within, Strictly}
use Rattle.meaning.specs.Or.{gives, fails}
use Rattle.packing.specs.Reader.{Outcome, read, refused, byte, bytes, word}
use Rattle.meaning.specs.Step.{return, continue}
use Rattle.meaning.specs.declared.fault.Cause.TheVariants.{Malformed}
use Rattle.meaning.specs.Bytes.{from_little_endian}

pub byte_here : (tree : List ℕ) (pos at : ℕ) → pos < length tree → get_or tree pos 0 < 256 → read (get_or tree pos 0) (drop (pos + 1) tree) ≡ byte at (drop pos tree)
unfolding byte
byte_here tree pos at here small = rw (drop-cons tree pos 0 here, lt-ltb (get_or tree pos 0) 256 small, add-one pos)

pub no_byte : (tree : List ℕ) (pos at : ℕ) → length tree ≤ pos → refused Malformed at ≡ byte at (drop pos tree)
unfolding byte
no_byte tree pos at past = rw (drop_of_length-le tree past)

pub bytes_there : (n at : ℕ) (s : List ℕ) → n ≤ length s → bytes n at s ≡ read (take n s) (drop n s)
unfolding bytes
bytes_there zero at s h = refl
bytes_there (suc n) at [] h = absurd (omega arith)
bytes_there (suc n) at (b ∷ s) h = rw (bytes_there n at s (omega arith))

pub bytes_missing : (n at : ℕ) (s : List ℕ) → length s < n → bytes n at s ≡ refused Malformed at
unfolding bytes
bytes_missing zero at s h = absurd (omega arith)
bytes_missing (suc n) at [] h = refl
bytes_missing (suc n) at (b ∷ s) h = rw (bytes_missing n at s (omega arith))

-- a part of what is left, which `get` found or did not
pub part_here : (tree rest part : List ℕ) (pos size at : ℕ) → rest ≡ slice_range tree pos (length tree) → part ≡ slice_range rest 0 size → size ≤ length rest → read part (drop (pos + size) tree) ≡ bytes size at (drop pos tree)
part_here tree rest part pos size at r p h =
    let left = length-drop pos tree in
    let whole : rest ≡ drop pos tree = r ∙ take_all (length tree - pos) (drop pos tree) (omega arith) in
    let enough : size ≤ length (drop pos tree) = rw (sym whole) h in
    let just : size - 0 ≡ size = omega arith in
    rw (p, whole, just, bytes_there size at (drop pos tree) enough, drop-drop size pos tree)

pub no_part : (tree : List ℕ) (pos size at left : ℕ) → left + pos ≡ length tree → left < size → refused Malformed at ≡ bytes size at (drop pos tree)
no_part tree pos size at left counts h =
    let rest = length-drop pos tree in
    sym (bytes_missing size at (drop pos tree) (omega arith))

pub nothing_past : (tree : List ℕ) (pos size at : ℕ) → length tree < pos → 0 < size → refused Malformed at ≡ bytes size at (drop pos tree)
nothing_past tree pos size at past some =
    let rest = length-drop pos tree in
    sym (bytes_missing size at (drop pos tree) (omega arith))

-- one step within the tree after another
pub further : {a b c n : ℕ} → (a ≤ b) × (b ≤ n) → (b ≤ c) × (c ≤ n) → (a ≤ c) × (c ≤ n)
further p q = let p₀ = p.0 in let q₀ = q.0 in (omega arith, q.1)

pub ahead_further : {a b c n : ℕ} → (a < b) × (b ≤ n) → (b ≤ c) × (c ≤ n) → (a < c) × (c ≤ n)
ahead_further p q = let p₀ = p.0 in let q₀ = q.0 in (omega arith, q.1)

pub within_ahead : {X : Type 0} (tree : List ℕ) (a b : ℕ) (r : Option (X × ℕ)) → a < b → Within tree b r → Strictly tree a r
within_ahead tree a b (Some r) h w = let w₀ = w.0 in (omega arith, w.1)
within_ahead tree a b None h w = tt

-- NUMBERS AS THEIR BYTES

abbrev pub Small : List ℕ → Type 0
Small [] = Unit {0}
Small (b ∷ s) = (b < 256) × Small s

pub small_drop : (n : ℕ) (s : List ℕ) → ((i : ℕ) → get_or s i 0 < 256) → Small (drop n s)
small_drop n s each = small_all (drop n s) (λ i. rw (get_or-drop n s i 0) (each (n + i)))
  where
    small_all : (s : List ℕ) → ((i : ℕ) → get_or s i 0 < 256) → Small s
    small_all [] each = tt
    small_all (b ∷ s) each = (each 0, small_all s (λ i. each (suc i)))

added : (k b : ℕ) (o : Outcome (List ℕ)) → continue (continue o (λ bs. return (from_little_endian k bs))) (λ high. return (b + 256 * high)) ≡ continue (continue o (λ bs. return (b ∷ bs))) (λ bs. return (from_little_endian (suc k) bs))
unfolding from_little_endian
added k b (gives (bs, s)) = refl
added k b (fails (cause, left)) = refl

pub word_is : (k at : ℕ) (s : List ℕ) → Small s → word k at s ≡ continue (bytes k at s) (λ bs. return (from_little_endian k bs))
unfolding word bytes byte from_little_endian
word_is zero at s small = refl
word_is (suc k) at [] small = refl
word_is (suc k) at (b ∷ s) small = rw (lt-ltb b 256 small.0, word_is k at s small.1) (added k b (bytes k at s))

-- bytes, each by its weight
pub two_are : (s : List ℕ) → get_or s 0 0 + get_or s 1 0 * 256 ≡ from_little_endian 2 s
unfolding from_little_endian
two_are [] = refl
two_are (a ∷ []) = omega arith
two_are (a ∷ b ∷ s) = omega arith

pub four_are : (s : List ℕ) → get_or s 0 0 + get_or s 1 0 * 256 + get_or s 2 0 * 65536 + get_or s 3 0 * 16777216 ≡ from_little_endian 4 s
unfolding from_little_endian
four_are [] = refl
four_are (a ∷ []) = omega arith
four_are (a ∷ b ∷ []) = omega arith
four_are (a ∷ b ∷ c ∷ []) = omega arith
four_are (a ∷ b ∷ c ∷ d ∷ s) = omega arith

pub eight_are : (s : List ℕ) → get_or s 0 0 + get_or s 1 0 * 256 + get_or s 2 0 * 65536 + get_or s 3 0 * 16777216 + get_or s 4 0 * 4294967296 + get_or s 5 0 * 1099511627776 + get_or s 6 0 * 281474976710656 + get_or s 7 0 * 72057594037927936 ≡ from_little_endian 8 s
unfolding from_little_endian
eight_are [] = refl
eight_are (a ∷ []) = omega arith
eight_are (a ∷ b ∷ []) = omega arith
eight_are (a ∷ b ∷ c ∷ []) = omega arith
eight_are (a ∷ b ∷ c ∷ d ∷ []) = omega arith
eight_are (a ∷ b ∷ c ∷ d ∷ e ∷ []) = omega arith
eight_are (a ∷ b ∷ c ∷ d ∷ e ∷ f ∷ []) = omega arith
eight_are (a ∷ b ∷ c ∷ d ∷ e ∷ f ∷ g ∷ []) = omega arith
eight_are (a ∷ b ∷ c ∷ d ∷ e ∷ f ∷ g ∷ h ∷ s) = omega arith

-- a number that is read as its bytes
module _ (tree : List ℕ) (pos k : ℕ) (each : (i : ℕ) → get_or tree i 0 < 256) where
  pub word_here : (n : ℕ) (bs : List ℕ) (next at : ℕ) → n ≡ from_little_endian k bs → read bs (drop next tree) ≡ bytes k at (drop pos tree) → read n (drop next tree) ≡ word k at (drop pos tree)
  word_here n bs next at is e = rw (word_is k at (drop pos tree) (small_drop pos tree each), sym e, is)

  pub no_word : (at : ℕ) → refused Malformed at ≡ bytes k at (drop pos tree) → refused Malformed at ≡ word k at (drop pos tree)
  no_word at e = rw (word_is k at (drop pos tree) (small_drop pos tree each), sym e)
