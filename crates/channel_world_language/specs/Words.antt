-- Lines, words, names and numbers of a script, over bytes.
use Rattle.std.specs.Prelude.{ℕ, ◌+◌, ◌-◌, ◌*◌, ◌^◌, ◌==◌, nat_lt, List, [], ◌∷◌, length, ◌&&◌, ◌||◌, Bool, false, not, Option, None, Some, if◌then◌else◌}
use Rattle.std.specs.List.{slice_split, list_all}
use Rattle.std.specs.Option.{option_map}
use Rattle.std.specs.Char.{is_ascii_digit, is_ascii_lowercase}

abbrev pub Name : Type 0
Name = List ℕ

-- ---- lines

-- a last line of no bytes is no line
abbrev pub without_empty_end : List (List ℕ) → List (List ℕ)
without_empty_end [] = []
without_empty_end ([] ∷ []) = []
without_empty_end (line ∷ lines) = line ∷ without_empty_end lines

-- each line ends with a line feed; the last one may end without it
abbrev pub lines_of : List ℕ → List (List ℕ)
lines_of text = without_empty_end (slice_split (λ (b : ℕ). b == 10) text)

-- ---- words

-- words are parted by one space
abbrev pub words_of : List ℕ → List (List ℕ)
words_of line = slice_split (λ (b : ℕ). b == 32) line

-- the words of what stands after a space, if one does
abbrev pub words_after : Option (List ℕ) → List (List ℕ)
words_after None = []
words_after (Some rest) = words_of rest

-- ---- numbers

-- the value of these digits after this number
abbrev pub value_after : ℕ → List ℕ → ℕ
value_after n [] = n
value_after n (d ∷ ds) = value_after (10 * n + (d - 48)) ds

-- digits without leading zeros
abbrev pub is_plain_decimal : List ℕ → Bool
is_plain_decimal [] = false
is_plain_decimal (d ∷ ds) = list_all is_ascii_digit (d ∷ ds) && (not (d == 48) || (length ds == 0))

-- a number below 2^64
abbrev pub number_of : List ℕ → Option ℕ
number_of ds = if is_plain_decimal ds && nat_lt (value_after 0 ds) (2 ^ 64) then Some (value_after 0 ds) else None

-- the first word, where it is a number, and the words after it
abbrev pub first_number : List (List ℕ) → Option (ℕ × List (List ℕ))
first_number [] = None
first_number (word ∷ words) = option_map (λ n. (n, words)) (number_of word)

-- ---- names

abbrev pub is_name_byte : ℕ → Bool
is_name_byte b = is_ascii_lowercase b || is_ascii_digit b

-- 1 to 8 letters and digits, a letter first
abbrev pub is_name : List ℕ → Bool
is_name [] = false
is_name (b ∷ bs) = is_ascii_lowercase b && (list_all is_name_byte bs && nat_lt (length bs) 8)

abbrev pub name_of : List ℕ → Option Name
name_of bs = if is_name bs then Some bs else None

-- the first word, where it is a name, and the words after it
abbrev pub first_name : List (List ℕ) → Option (Name × List (List ℕ))
first_name [] = None
first_name (word ∷ words) = option_map (λ name. (name, words)) (name_of word)
