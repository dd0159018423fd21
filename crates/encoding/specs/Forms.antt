-- A form of 16 bytes.
use Rattle.std.specs.Prelude.{◌≡◌, ℕ, ◌/◌, ◌%◌, List, [], ◌∷◌, ◌++◌, length, Some, None, Option}
use Rattle.encoding.specs.declared.form.Form.{Form}

-- the four bytes of a 32-bit number, the most significant first
abbrev pub word : ℕ → List ℕ
word n = n / 16777216 ∷ n / 65536 % 256 ∷ n / 256 % 256 ∷ n % 256 ∷ []

-- four head bytes, k1, k2 and value
abbrev pub form_bytes : Form → List ℕ
form_bytes f = (f.a ∷ f.b ∷ f.c ∷ f.d ∷ []) ++ word f.k1 ++ word f.k2 ++ word f.value

-- bytes are a form's exactly if there are 16
abbrev pub FormRead : List ℕ → Option Form → Type 0
FormRead bytes (Some f) = bytes ≡ form_bytes f
FormRead bytes None = length bytes ≡ 16 → ⊥
