-- Numbers and forms, by their bytes.
use Rattle.std.proofs.Common.{◌≡◌, ℕ, ◌/◌, ◌%◌, arith}
use Rattle.encoding.specs.declared.form.Form.{Form}
use Rattle.encoding.specs.Forms.{word, form_bytes}

-- a number is known by its bytes, and a form by its own
word_same : (m n : ℕ) → word m ≡ word n → m ≡ n
word_same m n e =
    let a : m / 16777216 ≡ n / 16777216 = cc in
    let b : m / 65536 % 256 ≡ n / 65536 % 256 = cc in
    let c : m / 256 % 256 ≡ n / 256 % 256 = cc in
    let d : m % 256 ≡ n % 256 = cc in
    omega arith

form_made : ℕ → ℕ → ℕ → ℕ → ℕ → ℕ → ℕ → Form
form_made a b c d x y z = record { a = a; b = b; c = c; d = d; k1 = x; k2 = y; value = z }

pub form_same : (e f : Form) → form_bytes e ≡ form_bytes f → e ≡ f
unfolding form_made
form_same e f h =
    let a : e.a ≡ f.a = cc in
    let b : e.b ≡ f.b = cc in
    let c : e.c ≡ f.c = cc in
    let d : e.d ≡ f.d = cc in
    let x : word e.k1 ≡ word f.k1 = cc in
    let y : word e.k2 ≡ word f.k2 = cc in
    let z : word e.value ≡ word f.value = cc in
    let x' : e.k1 ≡ f.k1 = word_same e.k1 f.k1 x in
    let y' : e.k2 ≡ f.k2 = word_same e.k2 f.k2 y in
    let z' : e.value ≡ f.value = word_same e.value f.value z in
    let same : form_made e.a e.b e.c e.d e.k1 e.k2 e.value ≡ form_made f.a f.b f.c f.d f.k1 f.k2 f.value = cc in
    same
