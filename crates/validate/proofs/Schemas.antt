-- The verdict of the schema rules.
use Rattle.std.proofs.Common.{◌≡◌, ◌<◌, ◌≤◌, true, List, length, Some, None, Option, Result, arith}
use Rattle.schema.specs.Nodes.{nodes}
use Rattle.schema.specs.declared.nodes.Node.{Node}
use Rattle.schema.specs.declared.nodes.Node.TheVariants.{List as list_node, Leaf}
use Rattle.schema.specs.declared.path.Path.{Path}
use Rattle.schema.specs.declared.typed.Schema.{Schema}
use Rattle.config.specs.declared.entry.Entry.{Entry}
use Rattle.validate.specs.declared.broken.Rule.{Rule}
use Rattle.validate.specs.declared.broken.Rule.TheVariants.{MandatoryMissing, ReferenceDangling, TooManyEntries, ValueRequired}
use Rattle.validate.specs.declared.broken.Broken.{Broken}
use Rattle.validate.specs.Rules.{rule_number, first_no, Lowest, Told}
use Rattle.validate.specs.Search.{lowest}
use Rattle.validate.specs.Schemas.{Breaks, breaks, told_at, schema_verdict}
use Rattle.validate.proofs.Lists.{at_most}
use Rattle.validate.proofs.Low.{Low, KeysOf, low_like, lowest_low}
use Rattle.validate.proofs.Decided.{numbered, is_missing, missing_is, missing_keys, is_dangling, dangling_is, dangling_keys, is_crowded, crowded_is, crowded_keys}

module _ (ns : List Node) (few : length ns ≤ 16) (es : List Entry) where
  is_broken : (r : Rule) (p : Path) → breaks ns es r p ≡ true → Breaks ns es r p
  is_broken MandatoryMissing p h = is_missing ns es p h
  is_broken ReferenceDangling p h = is_dangling ns es p h
  is_broken TooManyEntries p h = is_crowded ns es p h
  is_broken ValueRequired p h = cc

  broken_is : (r : Rule) (p : Path) → Breaks ns es r p → breaks ns es r p ≡ true
  broken_is MandatoryMissing p b = missing_is ns es p b
  broken_is ReferenceDangling p b = dangling_is ns es p b
  broken_is TooManyEntries p b = crowded_is ns es p b
  broken_is ValueRequired p b = absurd b

  broken_keys : (r : Rule) (p : Path) → Breaks ns es r p → KeysOf es p
  broken_keys MandatoryMissing p b = missing_keys ns es p b
  broken_keys ReferenceDangling p b = dangling_keys ns es p b
  broken_keys TooManyEntries p b = crowded_keys ns es p b
  broken_keys ValueRequired p b = absurd b

  small : (p : Path) (x : Node) → (1 ≤ p.node) × (p.node ≤ length ns) → (1 ≤ p.node) × (p.node ≤ 16)
  small p x h = let a = h.0 in let b = h.1 in (a, omega arith)

  broken_node : (r : Rule) (p : Path) → Breaks ns es r p → (1 ≤ p.node) × (p.node ≤ 16)
  broken_node MandatoryMissing p b = small p (Leaf b.leaf) (numbered ns p.node (Leaf b.leaf) b.is_leaf)
  broken_node ReferenceDangling p b = small p (Leaf b.leaf) (numbered ns p.node (Leaf b.leaf) b.is_leaf)
  broken_node TooManyEntries p b = small p (list_node b.list) (numbered ns p.node (list_node b.list) b.is_list)
  broken_node ValueRequired p b = absurd b

  low : (r : Rule) → Low (Breaks ns es r) (lowest (breaks ns es r) es)
  low r =
      low_like (λ p. breaks ns es r p ≡ true) (Breaks ns es r) (is_broken r) (broken_is r) _
      (lowest_low (breaks ns es r) es (λ p t. broken_keys r p (is_broken r p t)) (λ p t. broken_node r p (is_broken r p t)))

  -- no rule below this one is broken
  abbrev KeptBelow : Rule → Type 0
  KeptBelow r = (s : Rule) (p : Path) → rule_number s < rule_number r → Breaks ns es s p → ⊥

  told_one : (r : Rule) (q : Path) → KeptBelow r → Low (Breaks ns es r) (Some q) → Lowest (Breaks ns es) (record { rule = r; path = q })
  told_one r q below l = record { broken = l.0; lower_rules = below; lower_paths = l.1 }

  step : (r : Rule) (rest : Result Unit Broken) → KeptBelow r → (((p : Path) → Breaks ns es r p → ⊥) → Told (Breaks ns es) rest) → (o : Option Path) → Low (Breaks ns es r) o → Told (Breaks ns es) (first_no (told_at r o) rest)
  step r rest below next None l = next l
  step r rest below next (Some q) l = told_one r q below l

  below_2 : ((p : Path) → Breaks ns es MandatoryMissing p → ⊥) → KeptBelow ReferenceDangling
  below_2 one MandatoryMissing p lt b = one p b
  below_2 one ReferenceDangling p lt b = omega arith
  below_2 one TooManyEntries p lt b = omega arith
  below_2 one ValueRequired p lt b = b

  below_3 : ((p : Path) → Breaks ns es MandatoryMissing p → ⊥) → ((p : Path) → Breaks ns es ReferenceDangling p → ⊥) → KeptBelow TooManyEntries
  below_3 one two MandatoryMissing p lt b = one p b
  below_3 one two ReferenceDangling p lt b = two p b
  below_3 one two TooManyEntries p lt b = omega arith
  below_3 one two ValueRequired p lt b = b

  all_kept : ((p : Path) → Breaks ns es MandatoryMissing p → ⊥) → ((p : Path) → Breaks ns es ReferenceDangling p → ⊥) → ((p : Path) → Breaks ns es TooManyEntries p → ⊥) → (r : Rule) (p : Path) → Breaks ns es r p → ⊥
  all_kept one two three MandatoryMissing p b = one p b
  all_kept one two three ReferenceDangling p b = two p b
  all_kept one two three TooManyEntries p b = three p b
  all_kept one two three ValueRequired p b = b

  last : ((p : Path) → Breaks ns es MandatoryMissing p → ⊥) → ((p : Path) → Breaks ns es ReferenceDangling p → ⊥) → (o : Option Path) → Low (Breaks ns es TooManyEntries) o → Told (Breaks ns es) (told_at TooManyEntries o)
  last one two None l = all_kept one two l
  last one two (Some q) l = told_one TooManyEntries q (below_3 one two) l

  below_1 : KeptBelow MandatoryMissing
  below_1 MandatoryMissing p lt b = omega arith
  below_1 ReferenceDangling p lt b = omega arith
  below_1 TooManyEntries p lt b = omega arith
  below_1 ValueRequired p lt b = b

  pub verdict_told : Told (Breaks ns es) (schema_verdict ns es)
  verdict_told =
      step MandatoryMissing _ below_1
      (λ one. step ReferenceDangling _ (below_2 one)
      (λ two. last one two _ (low TooManyEntries))
      _ (low ReferenceDangling))
      _ (low MandatoryMissing)

pub few_nodes : (s : Schema) → length (nodes s) ≤ 16
few_nodes s = at_most s.nodes
