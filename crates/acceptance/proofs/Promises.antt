-- What is proved of the check, in one place. Each promise is restated here over the definitions alone; the file that proves it is the one
-- that its proof cites. That the code's `check` is `check_of` stands in its contract (src/lib.rt).
use Rattle.std.specs.Prelude.{ℕ, ◌<◌, ◌≡◌, ◌↔◌, List, Ok}
use Rattle.language.specs.Expression.{Closed}
use Rattle.table.specs.ExpressionOf.{exp_of}
use Rattle.acceptance.specs.Refusals.{check_of, check_code, check_place}
use Rattle.acceptance.specs.RefusedFor.{RefusedFor}
use Rattle.acceptance.specs.Checked.{Checked}
use Rattle.acceptance.specs.Accepted as Accepted
use Rattle.acceptance.proofs.RefusalsExactly as RefusalsExactly

-- ---- What the codes mean

-- The check accepts a table with n nodes exactly if its length, its fields, its tree and its names are in order.
accepts_exactly_checked : (words : List ℕ) (n : ℕ) → (check_of words ≡ Ok n) ↔ Checked words n
accepts_exactly_checked words n = (Accepted.accepted_is_checked words n, Accepted.checked_is_accepted words n)

-- The same as numbers: code 0, with the node count as its place.
code_0_exactly : (words : List ℕ) (n : ℕ) → ((check_code (check_of words) ≡ 0) × (check_place (check_of words) ≡ n)) ↔ Checked words n
code_0_exactly = RefusalsExactly.code_0_exactly

-- Every other code is answered exactly in its case, and with its place.
codes_1_to_4_exactly : (words : List ℕ) (code place : ℕ) → 0 < code → ((check_code (check_of words) ≡ code) × (check_place (check_of words) ≡ place)) ↔ RefusedFor words code place
codes_1_to_4_exactly = RefusalsExactly.codes_1_to_4_exactly

-- ---- The formula of a checked table

formula_closed : (words : List ℕ) (n : ℕ) → Checked words n → Closed (exp_of words)
formula_closed = Accepted.formula_closed
