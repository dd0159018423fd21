-- The rules of a schema: first in words, then as tests of a path.
use Rattle.std.specs.Prelude.{◌≡◌, ℕ, ◌<◌, Bool, true, false, not, ◌&&◌, ◌||◌, List, [], ◌∷◌, is_some, Some, None, Ok, Err, count_by, Option, Result, ◌==◌, ◌≢◌, nat_lt}
use Rattle.std.specs.List.{ContainsAt as Has}
use Rattle.schema.specs.Rows.{at}
use Rattle.schema.specs.declared.nodes.LeafNode.{LeafNode}
use Rattle.schema.specs.declared.nodes.ListNode.{ListNode}
use Rattle.schema.specs.declared.nodes.Node.{Node}
use Rattle.schema.specs.declared.nodes.Node.TheVariants.{List as list_node, Leaf}
use Rattle.schema.specs.declared.path.Path.{Path}
use Rattle.config.specs.declared.entry.Entry.{Entry}
use Rattle.config.specs.Configs.{found}
use Rattle.config.specs.Lawful.{held}
use Rattle.validate.specs.declared.broken.Rule.{Rule}
use Rattle.validate.specs.declared.broken.Rule.TheVariants.{MandatoryMissing, ReferenceDangling, TooManyEntries, ValueRequired}
use Rattle.validate.specs.declared.broken.Broken.{Broken}
use Rattle.validate.specs.Rules.{first_no}
use Rattle.validate.specs.Search.{lowest}

-- Rule 1 is broken at a path of a mandatory leaf that is absent, where the entry of the list around it is present, or which
-- stands at the top and has no keys.
pub record Missing (ns : List Node) (es : List Entry) (p : Path) : Type 0 where
  pub leaf : LeafNode
  pub is_leaf : at ns p.node ≡ Some (Leaf leaf)
  pub mandatory : leaf.mandatory ≡ true
  pub at_top : leaf.parent ≡ None → (p.k1 ≡ 0) × (p.k2 ≡ 0)
  pub inside : held ns es p ≡ true
  pub absent : found es p ≡ None

-- Rule 2 is broken at a present leaf with a reference, whose value is the key of no entry of that list.
pub record Dangling (ns : List Node) (es : List Entry) (p : Path) : Type 0 where
  pub leaf : LeafNode
  pub is_leaf : at ns p.node ≡ Some (Leaf leaf)
  pub list : ℕ
  pub refers : leaf.reference ≡ Some list
  pub entry : Entry
  pub present : found es p ≡ Some entry
  pub no_key : (e : Entry) → Has es e → e.path.node ≡ list → e.path.k1 ≢ entry.value

-- an entry is of the path's list, and inside the same parent entry
abbrev pub in_parent : Option ℕ → Path → Entry → Bool
in_parent None p e = e.path.node == p.node
in_parent (Some outer) p e = e.path.node == p.node && e.path.k1 == p.k1

-- Rule 3 is broken at a list that has more entries than its maximum inside one present parent entry, or at the top. It is told
-- with the parent's key, and without keys at the top.
pub record Crowded (ns : List Node) (es : List Entry) (p : Path) : Type 0 where
  pub list : ListNode
  pub is_list : at ns p.node ≡ Some (list_node list)
  pub most : ℕ
  pub maximum : list.maximum ≡ Some most
  pub at_top : list.parent ≡ None → p.k1 ≡ 0
  pub of_list : p.k2 ≡ 0
  pub inside : held ns es p ≡ true
  pub many : most < count_by (in_parent list.parent p) es

-- a schema has no rule 4
abbrev pub Breaks : List Node → List Entry → Rule → Path → Type 0
Breaks ns es MandatoryMissing p = Missing ns es p
Breaks ns es ReferenceDangling p = Dangling ns es p
Breaks ns es TooManyEntries p = Crowded ns es p
Breaks ns es ValueRequired p = ⊥

-- ---- rule 1 as a test
abbrev pub keyless : Option ℕ → Path → Bool
keyless None p = p.k1 == 0 && p.k2 == 0
keyless (Some list) p = true

abbrev pub missing_node : List Node → List Entry → Path → Option Node → Bool
missing_node ns es p None = false
missing_node ns es p (Some (list_node l)) = false
missing_node ns es p (Some (Leaf l)) =
    l.mandatory && (keyless l.parent p && (held ns es p && not (is_some (found es p))))

abbrev pub missing : List Node → List Entry → Path → Bool
missing ns es p = missing_node ns es p (at ns p.node)

-- ---- rule 2 as a test
abbrev pub has_key : List Entry → ℕ → ℕ → Bool
has_key [] list key = false
has_key (e ∷ es) list key = (e.path.node == list && e.path.k1 == key) || has_key es list key

abbrev pub no_target : List Entry → Option ℕ → Option Entry → Bool
no_target es None e = false
no_target es (Some list) None = false
no_target es (Some list) (Some e) = not (has_key es list e.value)

abbrev pub dangling_node : List Entry → Path → Option Node → Bool
dangling_node es p None = false
dangling_node es p (Some (list_node l)) = false
dangling_node es p (Some (Leaf l)) = no_target es l.reference (found es p)

abbrev pub dangling : List Node → List Entry → Path → Bool
dangling ns es p = dangling_node es p (at ns p.node)

-- ---- rule 3 as a test
abbrev pub list_place : Option ℕ → Path → Bool
list_place None p = p.k1 == 0 && p.k2 == 0
list_place (Some outer) p = p.k2 == 0

abbrev pub over : Option ℕ → ℕ → Bool
over None n = false
over (Some most) n = nat_lt most n

abbrev pub crowded_node : List Node → List Entry → Path → Option Node → Bool
crowded_node ns es p None = false
crowded_node ns es p (Some (list_node l)) =
    list_place l.parent p && (held ns es p && over l.maximum (count_by (in_parent l.parent p) es))
crowded_node ns es p (Some (Leaf l)) = false

abbrev pub crowded : List Node → List Entry → Path → Bool
crowded ns es p = crowded_node ns es p (at ns p.node)

-- ---- the whole
abbrev pub breaks : List Node → List Entry → Rule → Path → Bool
breaks ns es MandatoryMissing p = missing ns es p
breaks ns es ReferenceDangling p = dangling ns es p
breaks ns es TooManyEntries p = crowded ns es p
breaks ns es ValueRequired p = false

abbrev pub told_at : Rule → Option Path → Result Unit Broken
told_at rule None = Ok tt
told_at rule (Some p) = Err (record { rule = rule; path = p })

abbrev pub rule_verdict : List Node → List Entry → Rule → Result Unit Broken
rule_verdict ns es rule = told_at rule (lowest (breaks ns es rule) es)

abbrev pub schema_verdict : List Node → List Entry → Result Unit Broken
schema_verdict ns es =
    first_no (rule_verdict ns es MandatoryMissing) (first_no (rule_verdict ns es ReferenceDangling) (rule_verdict ns es TooManyEntries))
