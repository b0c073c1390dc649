-- Separators, and the lines of a text.
use Rattle.std.specs.Prelude.{◌==◌, ◌+◌, ◌-◌, ◌||◌, ℕ, Bool, true, if◌then◌else◌, List, [], ◌∷◌}
use Rattle.std.specs.Prelude.{length, take, count_by}

-- blanks, tabs, line feeds and carriage returns stand between tokens
abbrev pub is_separator : ℕ → Bool
is_separator byte = (byte == 32) || (byte == 9) || (byte == 10) || (byte == 13)

-- the bytes from the next token on
unfoldable pub skipped : List ℕ → List ℕ
skipped [] = []
skipped (byte ∷ rest) = if is_separator byte then skipped rest else byte ∷ rest

-- no token goes on here
abbrev pub is_token_end : List ℕ → Bool
is_token_end [] = true
is_token_end (byte ∷ rest) = is_separator byte

-- the line of the byte that has so many bytes of the text from it on
abbrev pub line_at : List ℕ → ℕ → ℕ
line_at text left = 1 + count_by (λ byte. byte == 10) (take (length text - left) text)

-- the bytes of a line, up to its line feed
unfoldable pub line_of : List ℕ → List ℕ
line_of [] = []
line_of (byte ∷ rest) = if byte == 10 then [] else byte ∷ line_of rest

-- what follows the bytes of a line: its line feed, or nothing
unfoldable pub after_line : List ℕ → List ℕ
after_line [] = []
after_line (byte ∷ rest) = if byte == 10 then byte ∷ rest else after_line rest

-- one more byte in front, but for a carriage return in front of nothing
abbrev pub put_before : ℕ → List ℕ → List ℕ
put_before byte [] = if byte == 13 then [] else byte ∷ []
put_before byte (next ∷ rest) = byte ∷ next ∷ rest

-- a line without the carriage returns at its end
unfoldable pub trimmed : List ℕ → List ℕ
trimmed [] = []
trimmed (byte ∷ rest) = put_before byte (trimmed rest)
