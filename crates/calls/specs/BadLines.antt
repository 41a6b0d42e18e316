-- Why a line is no call, in words.
use Rattle.std.specs.Prelude.{List, ℕ, codes}
use Rattle.calls.specs.declared.word.BadLine.{BadLine}

abbrev pub bad_words : BadLine → List ℕ
bad_words BadLine.NoCall = codes "it begins with no call that is known"
bad_words BadLine.MissingWord = codes "a word is missing"
bad_words BadLine.NotHex = codes "a word is neither hexadecimal digits, -, nor text in double quotes"
bad_words BadLine.OddDigits = codes "a word has an odd number of hexadecimal digits"
bad_words BadLine.BadEscape = codes "a backslash stands before a byte that it cannot stand before"
bad_words BadLine.OpenQuote = codes "a text has no closing quote"
bad_words BadLine.NoSpace = codes "words are separated by one space"
bad_words BadLine.MoreWords = codes "there are more words than the call takes"
bad_words BadLine.NotDecimal = codes "a number is not written in decimal digits"
bad_words BadLine.TooLarge = codes "a number is above 18446744073709551615"
bad_words BadLine.NoFormatter = codes "no formatter of that name is known"
