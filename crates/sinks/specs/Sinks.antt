-- The page and the limits with how much a page holds and what a limit is as parts of their states: they do what the page of that
-- size and the layer of that limit do.
use Rattle.std.specs.Prelude.{◌≡◌, ℕ, ◌+◌, List, [], ◌++◌, length}
use Rattle.meaning.specs.Hosts.{Sink, Taken, took, stopped}
use Rattle.meaning.specs.Sinks.{page as page_of, limited as limited_to, line_feeds, level_above}

-- what was done, with the state that is left told in another form
abbrev pub told_as : {S T : Type 0} → (S → T) → Taken S → Taken T
told_as form (took s) = took (form s)
told_as form (stopped level) = stopped level

-- how much a page holds, and the bytes on it
pub record Written : Type 0 where
  pub size : ℕ
  pub bytes : List ℕ

abbrev pub on_page : (size : ℕ) → List ℕ → Written
on_page size bytes = record { size = size; bytes = bytes }

abbrev pub page : Sink
page = record {
  State = Written;
  highest = 0;
  take = λ there piece. told_as (on_page there.size) ((page_of there.size).take there.bytes piece);
}

-- the limit of a layer, its count, and the state of the sink beneath
pub record Limited (M : Type 0) : Type 0 where
  pub limit : ℕ
  pub count : ℕ
  pub beneath : M

abbrev pub under_limit : {M : Type 0} → (limit : ℕ) → ℕ × M → Limited M
under_limit limit (count, beneath) = record { limit = limit; count = count; beneath = beneath }

abbrev pub limited : (measure : List ℕ → ℕ) → Sink → Sink
limited measure beneath = record {
  State = Limited beneath.State;
  highest = level_above beneath;
  take = λ there piece. told_as (under_limit there.limit) ((limited_to measure there.limit beneath).take (there.count, there.beneath) piece);
}

abbrev pub line_limit : Sink → Sink
line_limit = limited line_feeds

abbrev pub byte_limit : Sink → Sink
byte_limit = limited length

-- a measure of which a joined text has as much as its parts
pub record Additive (measure : List ℕ → ℕ) : Type 0 where
  pub none : measure [] ≡ 0
  pub join : (a b : List ℕ) → measure (a ++ b) ≡ measure a + measure b
