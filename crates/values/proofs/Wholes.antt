-- What the measure of a whole value comes to: nothing may be left over.
use Rattle.std.proofs.Common.{◌≡◌, ℕ, ◌+◌, ◌-◌, ◌<◌, ◌≤◌, List, ◌∷◌, length, get_or, drop, sym, ap, ◌∙◌, add-one, arith, length-drop, drop_of_length-le, drop-cons}
use Rattle.meaning.specs.Charge.{Charge, cost}
use Rattle.meaning.specs.Fault.{fault}
use Rattle.meaning.specs.Or.{fails, gives}
use Rattle.meaning.specs.Value.{Value}
use Rattle.meaning.specs.declared.fault.Cause.{Cause}
use Rattle.meaning.specs.declared.fault.Cause.TheVariants.{Malformed}
use Rattle.packing.specs.Reader.{read, refused}
use Rattle.packing.specs.Unpacking.{answer, unpack_value, value_within}
use Rattle.values.specs.Measures.{priced, weigh}
use Rattle.values.proofs.Sums.{read_as, refused_as}

module _ (bytes : List ℕ) where
  pub whole_refused : (cause : Cause) (offset : ℕ) → refused cause (length bytes - offset) ≡ weigh cost (value_within 16 bytes) → offset ≤ length bytes → fails (fault cause offset) ≡ priced (unpack_value bytes)
  unfolding unpack_value answer
  whole_refused cause offset e inside =
      let back : length bytes - (length bytes - offset) ≡ offset = omega arith in
      rw (refused_as cost (value_within 16 bytes) cause (length bytes - offset) e, back)

  module _ (c : Charge) (end : ℕ) (e : read c (drop end bytes) ≡ weigh cost (value_within 16 bytes)) where
    pub whole_costs : length bytes ≤ end → gives c ≡ priced (unpack_value bytes)
    unfolding unpack_value answer
    whole_costs past = let told = read_as cost (value_within 16 bytes) c (drop end bytes) e in by told.what told.is told.costs
      where
        by : (v : Value) → value_within 16 bytes ≡ read v (drop end bytes) → c ≡ cost v → gives c ≡ priced (unpack_value bytes)
        by v p q = rw (p, drop_of_length-le bytes past, q)

    pub whole_left_over : end < length bytes → fails (fault Malformed end) ≡ priced (unpack_value bytes)
    unfolding unpack_value answer
    whole_left_over short = let told = read_as cost (value_within 16 bytes) c (drop end bytes) e in by told.what told.is
      where
        more : drop end bytes ≡ get_or bytes end 0 ∷ drop (end + 1) bytes
        more = drop-cons bytes end 0 short ∙ ap (λ n. get_or bytes end 0 ∷ drop n bytes) (sym (add-one end))

        by : (v : Value) → value_within 16 bytes ≡ read v (drop end bytes) → fails (fault Malformed end) ≡ priced (unpack_value bytes)
        by v p =
            let size : length (get_or bytes end 0 ∷ drop (end + 1) bytes) ≡ length bytes - end = ap length (sym more) ∙ length-drop end bytes in
            let back : length bytes - length (get_or bytes end 0 ∷ drop (end + 1) bytes) ≡ end = omega arith in
            rw (p, more, back)
