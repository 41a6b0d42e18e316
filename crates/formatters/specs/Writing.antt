-- What a writer has written.
use Rattle.std.specs.Prelude.{◌≡◌, ◌++◌, length, take, Ok, Err, Result}
use Rattle.meaning.specs.Or.{gives}
use Rattle.meaning.specs.Value.{Text}
use Rattle.hosts.specs.Answers.{fitted}
use Rattle.hosts.specs.declared.answer.Unwritten.{Unwritten}
use Rattle.formatters.specs.declared.writer.Writer.{Writer}

-- the text so far
abbrev pub text_of : Writer → Text
text_of w = take w.len w.buffer.now

-- the text after a writing, or why it was not written
abbrev pub outcome : Result (Unit {0}) Unwritten → Text → Result Text Unwritten
outcome (Ok done) text = Ok text
outcome (Err why) text = Err why

-- more was written behind the text so far, or does not fit
pub record Wrote (more : Text) (result : Result (Unit {0}) Unwritten) (old new : Writer) : Type 0 where
  pub answers : outcome result (text_of new) ≡ fitted (length old.buffer.now) (gives (text_of old ++ more))
  -- it writes to the same buffer, which has its fixed size
  pub lender : new.buffer.ghost_name ≡ old.buffer.ghost_name
  pub room : length new.buffer.now ≡ length old.buffer.now
