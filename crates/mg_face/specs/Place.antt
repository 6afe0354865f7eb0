-- Where the first number of a JSON text stands that is not whole.
use Rattle.std.specs.Prelude.{ℕ, ◌+◌, ◌==◌, ◌&&◌, ◌||◌, List, [], ◌∷◌, take, Bool, true, false, not, is_some, Option, Some, None, if◌then◌else◌}
use Rattle.std.specs.Char.{is_ascii_digit}
use Rattle.std.specs.List.{take_while}
use Rattle.json.specs.Lex.{Class, quote, backslash, operator, space, other, class, Mode, between, in_word, in_string, in_escape}
use Rattle.json.specs.Word.{head, is_operator, is_space}
use Rattle.mg_face.specs.Numbers.{whole_in}
use Rattle.mg_face.specs.declared.place.Mode as code
use Rattle.mg_face.specs.declared.place.Mode.TheVariants.{Between, InWord, InString, InEscape}

-- a number's text, of which the first 40 bytes are shown, and its place: the line and the column, both from 1, the column in bytes
pub record Fraction : Type 0 where
  pub number : List ℕ
  pub line : ℕ
  pub column : ℕ

-- the byte belongs to a word: it is no operator and no space
abbrev pub is_of_word : ℕ → Bool
is_of_word x = not (is_operator x || is_space x)

-- the word that a text begins with
abbrev pub word_of : List ℕ → List ℕ
word_of t = take_while is_of_word t

-- the word is a number (RFC 8259, section 6: it begins with a digit or a minus), and not a whole one
abbrev pub is_fraction : List ℕ → Bool
is_fraction word = (is_ascii_digit (head word) || (head word == 45)) && not (is_some (whole_in word))

-- a word begins at a byte of this class
abbrev pub begins_word : Mode → Class → Bool
begins_word between other = true
begins_word mode c = false

-- the lexer's mode after a byte of this class
abbrev pub mode_after : Mode → Class → Mode
mode_after between quote = in_string
mode_after between operator = between
mode_after between space = between
mode_after between c = in_word
mode_after in_word operator = between
mode_after in_word space = between
mode_after in_word c = in_word
mode_after in_string quote = between
mode_after in_string backslash = in_escape
mode_after in_string c = in_string
mode_after in_escape c = in_string

-- a number that is not whole stands at the front of a text
abbrev pub starts_fraction : Mode → List ℕ → Bool
starts_fraction mode t = begins_word mode (class (head t)) && is_fraction (word_of t)

-- the number at the front of a text that stands at this line and this column
abbrev pub fraction_at : ℕ → ℕ → List ℕ → Fraction
fraction_at line column t = record { number = take 40 (word_of t); line = line; column = column }

-- what a mode of the code stands for
abbrev pub mode_view : code.Mode → Mode
mode_view Between = between
mode_view InWord = in_word
mode_view InString = in_string
mode_view InEscape = in_escape

-- the line and the column after the byte x; a line ends with a line feed
abbrev pub line_after : ℕ → ℕ → ℕ
line_after x line = if x == 10 then line + 1 else line

abbrev pub column_after : ℕ → ℕ → ℕ
column_after x column = if x == 10 then 1 else column + 1

-- the first such number of what is left of a text, which begins in this mode, at this line and this column
abbrev pub fraction_from : Mode → ℕ → ℕ → List ℕ → Option Fraction
fraction_from mode line column [] = None
fraction_from mode line column (x ∷ xs) =
    if starts_fraction mode (x ∷ xs)
    then Some (fraction_at line column (x ∷ xs))
    else fraction_from (mode_after mode (class x)) (line_after x line) (column_after x column) xs

-- the first number of a text that is not whole
abbrev pub first_fraction : List ℕ → Option Fraction
first_fraction bytes = fraction_from between 1 1 bytes
