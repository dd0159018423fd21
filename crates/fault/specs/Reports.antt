-- The eight fields by which a refusal is told.
use Rattle.std.specs.Prelude.{ℕ}
use Rattle.fault.specs.declared.Report.{Report}
use Rattle.fault.specs.Numbers.{layer_at}

-- a refusal by this number, with its layer, the other fields without use
abbrev pub plain : ℕ → Report
plain n =
    record { number = n; layer = layer_at n; cause = 0; item = 0; kept = 0; node = 0; k1 = 0; k2 = 0 }

-- the same refusal with a cause
abbrev pub because : Report → ℕ → Report
because r c =
    record { number = r.number; layer = r.layer; cause = c; item = r.item; kept = r.kept; node = r.node; k1 = r.k1; k2 = r.k2 }

-- the same refusal at an item of an edit list, with the number of items that were kept
abbrev pub in_item : Report → ℕ → ℕ → Report
in_item r i k =
    record { number = r.number; layer = r.layer; cause = r.cause; item = i; kept = k; node = r.node; k1 = r.k1; k2 = r.k2 }

-- the same refusal at a path
abbrev pub at_path : Report → ℕ → ℕ → ℕ → Report
at_path r n a b =
    record { number = r.number; layer = r.layer; cause = r.cause; item = r.item; kept = r.kept; node = n; k1 = a; k2 = b }
