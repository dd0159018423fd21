-- Required values.
use Rattle.std.specs.Prelude.{◌≡◌, ℕ, ◌<◌, ◌≤◌, Bool, true, false, cond, ◌&&◌, List, [], ◌∷◌, length, Some, None, Ok, Err, Option, Result, nat_le, slice_index_or}
use Rattle.std.specs.List.{ContainsAt as Has}
use Rattle.table.specs.Table.{Rising}
use Rattle.schema.specs.declared.path.Path.{Path}
use Rattle.schema.specs.Paths.{in_range}
use Rattle.config.specs.declared.entry.Entry.{Entry}
use Rattle.config.specs.Order.{path_sooner}
use Rattle.config.specs.Configs.{found}
use Rattle.validate.specs.declared.broken.Rule.{Rule}
use Rattle.validate.specs.declared.broken.Rule.TheVariants.{MandatoryMissing, ReferenceDangling, TooManyEntries, ValueRequired}
use Rattle.validate.specs.declared.broken.Broken.{Broken}
use Rattle.validate.specs.declared.bound.Bound.{Bound}

abbrev pub bound_path : Bound → Path
bound_path b = b.path

-- a path comes before the next one, if there is one
abbrev pub before_next : Bound → List Bound → Bool
before_next b [] = true
before_next b (c ∷ rest) = path_sooner b.path c.path

-- the range of the values is not empty
abbrev pub ranged : Bound → Bool
ranged b = nat_le b.values.lo b.values.hi

-- each path comes before the next one, and no range is empty
abbrev pub bounds_lawful : List Bound → Bool
bounds_lawful [] = true
bounds_lawful (b ∷ rest) = nat_le b.values.lo b.values.hi && (before_next b rest && bounds_lawful rest)

-- Records are taken if there are at most 8, in strictly rising order of their paths, each with lo ≤ hi.
pub record Listed (bs : List Bound) : Type 0 where
  pub few : length bs ≤ 8
  pub rises : Rising bound_path path_sooner bs
  pub ranges : (i : ℕ) (d : Bound) → i < length bs → (slice_index_or bs i d).values.lo ≤ (slice_index_or bs i d).values.hi

-- the value at the record's path is in its range
abbrev pub met_by : Option Entry → Bound → Bool
met_by None b = false
met_by (Some e) b = in_range b.values e.value

abbrev pub met : List Entry → Bound → Bool
met es b = met_by (found es b.path) b

-- no to the first record that is not met
abbrev pub first_unmet : List Bound → List Entry → Result Unit Broken
first_unmet [] es = Ok tt
first_unmet (b ∷ rest) es =
    cond (met es b) (first_unmet rest es) (Err (record { rule = ValueRequired; path = b.path }))

-- Rule 4 in words: a record asks for this path, where no entry has a value in its range.
pub record Unmet (bs : List Bound) (es : List Entry) (p : Path) : Type 0 where
  pub bound : Bound
  pub asked : Has bs bound
  pub there : bound.path ≡ p
  pub none : (e : Entry) → found es p ≡ Some e → bound.values.lo ≤ e.value → e.value ≤ bound.values.hi → ⊥

-- required values break no rule but 4
abbrev pub RequiredBreaks : List Bound → List Entry → Rule → Path → Type 0
RequiredBreaks bs es MandatoryMissing p = ⊥
RequiredBreaks bs es ReferenceDangling p = ⊥
RequiredBreaks bs es TooManyEntries p = ⊥
RequiredBreaks bs es ValueRequired p = Unmet bs es p
