-- A pot read from its bytes.
use Rattle.std.proofs.Common.{◌≡◌, ℕ, ◌+◌, ◌-◌, ◌*◌, ◌^◌, suc, Bool, true, false, cond, List, get_or, drop, pos, negsuc, nat_lt, to_z, w32, sym, refl, ap, ◌∙◌, get_or-drop}
use mir.Val.{sel}
use Rattle.meaning.specs.Bytes.{from_little_endian, twos_complement}
use Rattle.meaning.specs.Sources.{pot}
use Rattle.reader.proofs.Readings.{two_are, four_are}
use Rattle.sources.specs.Pots.{value_of_pot}
use Rattle.sources.specs.declared.pot.Pot.{Pot}

-- the two or four bytes from a place on
module _ (b : List ℕ) (n : ℕ) where
  two_at : get_or b (n + 0) 0 + get_or b (n + 1) 0 * 256 ≡ from_little_endian 2 (drop n b)
  two_at = rw (sym (get_or-drop n b 0 0), sym (get_or-drop n b 1 0)) (two_are (drop n b))

  four_at : get_or b (n + 0) 0 + get_or b (n + 1) 0 * 256 + get_or b (n + 2) 0 * 65536 + get_or b (n + 3) 0 * 16777216 ≡ from_little_endian 4 (drop n b)
  four_at = rw (sym (get_or-drop n b 0 0), sym (get_or-drop n b 1 0), sym (get_or-drop n b 2 0), sym (get_or-drop n b 3 0)) (four_are (drop n b))

signed_as : (n : ℕ) → to_z w32 n ≡ twos_complement 32 n
signed_as n = by (nat_lt n (2 ^ 31))
  where
    by : (b : Bool) → sel b (pos n) (negsuc (2 ^ 32 - suc n)) ≡ cond b (pos n) (negsuc (2 ^ 32 - suc n))
    by true = refl
    by false = refl

pub pot_is :
    (b : List ℕ) (p : Pot)
    → p.number ≡ get_or b 0 0 + get_or b 1 0 * 256
    → p.depth ≡ get_or b 2 0 + get_or b 3 0 * 256
    → p.lat ≡ to_z w32 (get_or b 4 0 + get_or b 5 0 * 256 + get_or b 6 0 * 65536 + get_or b 7 0 * 16777216)
    → p.lon ≡ to_z w32 (get_or b 8 0 + get_or b 9 0 * 256 + get_or b 10 0 * 65536 + get_or b 11 0 * 16777216)
    → value_of_pot p ≡ pot b
pot_is b p number depth lat lon =
    let n = number ∙ two_are b in
    let d = depth ∙ two_at b 2 in
    let a = lat ∙ signed_as _ ∙ ap (twos_complement 32) (four_at b 4) in
    let o = lon ∙ signed_as _ ∙ ap (twos_complement 32) (four_at b 8) in
    rw (n, d, a, o)
