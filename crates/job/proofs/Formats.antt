-- What a report says of formatting, by what loading and the formatter answer.
use Rattle.std.proofs.Common.{◌≡◌, ℕ, Bool, true, false, List, length, nat_le, sym, refl}
use Rattle.meaning.specs.Charge.{Charge, cost, within}
use Rattle.meaning.specs.Fault.{Fault}
use Rattle.meaning.specs.Hosts.{Formatter, Reason}
use Rattle.meaning.specs.Or.{Or, fails, gives}
use Rattle.meaning.specs.Value.{Value, Text}
use Rattle.packing.specs.Unpacking.{unpack_value}
use Rattle.store.specs.Stores.{supply, value}
use Rattle.store.specs.declared.cell.Ref.{Ref}
use Rattle.store.specs.declared.memory.Store.{Store}
use Rattle.loading.specs.Loading.{loaded}
use Rattle.hosts.specs.Answers.{fitted}
use Rattle.job.specs.Formats.{came_formatted, came_of_format, came_of_text, came_told, format_words, formatted_words, text_words, told_words}
use Rattle.job.specs.Loads.{load_words, unpacked_words}
use Rattle.job.specs.declared.report.Came.{Came}
use Rattle.job.proofs.Loads.{Alone, tested}

-- what code is told of an answer says what the answer says
pub told_text : (o : Or Reason Text) → told_words (fitted 4096 o) ≡ text_words o
told_text (fails reason) = refl
told_text (gives text) = by (nat_le (length text) 4096) refl
  where
    by : (b : Bool) → nat_le (length text) 4096 ≡ b → told_words (fitted 4096 (gives text)) ≡ text_words (gives text)
    by true fits = rw fits refl
    by false fits = rw fits refl

pub told_came : (o : Or Reason Text) → came_told (fitted 4096 o) ≡ came_of_text o
told_came (fails reason) = refl
told_came (gives text) = by (nat_le (length text) 4096) refl
  where
    by : (b : Bool) → nat_le (length text) 4096 ≡ b → came_told (fitted 4096 (gives text)) ≡ came_of_text (gives text)
    by true fits = rw fits refl
    by false fits = rw fits refl

-- of a value that a store holds
module _ (f : Formatter) (before after : Store) (packed : List ℕ) (r : Ref) (a : Alone before after packed r) where
  pub formatted_text : text_words (f (value after r)) ≡ format_words (supply before) f packed
  formatted_text = sym (rw (a.is, a.held) refl)

  pub formatted_came : came_of_text (f (value after r)) ≡ came_of_format (supply before) f packed
  formatted_came = sym (rw (a.is, a.held) refl)

-- of one that is not loaded
module _ (f : Formatter) (most : Charge) (packed : List ℕ) (w : Fault) (refused : loaded most packed ≡ fails w) where
  pub unformatted_words : load_words most packed ≡ format_words most f packed
  unformatted_words = by (unpack_value packed) refused
    where
      by : (o : Or Fault Value) → tested most o ≡ fails w → unpacked_words most (length packed) o ≡ formatted_words most f o
      by (fails g) e = refl
      by (gives v) e = on (within most (cost v)) refl
        where
          on : (b : Bool) → within most (cost v) ≡ b → unpacked_words most (length packed) (gives v) ≡ formatted_words most f (gives v)
          on true held = let none : tested most (gives v) ≡ gives v = rw held in cc
          on false held = rw held refl

  pub unformatted_came : Came.Refused ≡ came_of_format most f packed
  unformatted_came = by (unpack_value packed) refused
    where
      by : (o : Or Fault Value) → tested most o ≡ fails w → Came.Refused ≡ came_formatted most f o
      by (fails g) e = refl
      by (gives v) e = on (within most (cost v)) refl
        where
          on : (b : Bool) → within most (cost v) ≡ b → Came.Refused ≡ came_formatted most f (gives v)
          on true held = let none : tested most (gives v) ≡ gives v = rw held in cc
          on false held = rw held refl
