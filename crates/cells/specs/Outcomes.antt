-- Outcomes put together.
use Rattle.std.specs.Prelude.{ℕ, ◌≡◌, refl, ◌↔◌, List, length, Result, Ok, Err}
use Rattle.std.proofs.Common.{◌∙◌, subst}
use Rattle.language.specs.Ty.{Subst}
use Rattle.cells.specs.Cells.{Sat}
use Rattle.cells.specs.Layout.{store_of, Sound}
use Rattle.cells.specs.Interface.{MetOrNone, Outcome}
use Rattle.cells.specs.declared.Clash.{Clash}

-- A demand before a change is another after it.
pub outcome_after : {before between after : List ℕ} {D E : Subst → Type 0} {r : Result (Unit {0}) Clash} → length between ≡ length before →
    ((ρ : Subst) → (Sat ρ (store_of before) × D ρ) ↔ (Sat ρ (store_of between) × E ρ)) → Outcome between after E r → Outcome before after D r
outcome_after {before} {between} {after} {D} {E} {r} same change o = record { same_length = o.same_length ∙ same; says = go r o.says }
  where
    go : (r : Result (Unit {0}) Clash) → MetOrNone between after E r → MetOrNone before after D r
    go (Ok _) m = record { sound = m.sound; keeps = λ ρ. (λ h. (m.keeps ρ).0 ((change ρ).0 h), λ h. (change ρ).1 ((m.keeps ρ).1 h)) }
    go (Err _) none = λ ρ h d. let (h', e) = (change ρ).0 (h, d) in none ρ h' e

-- A demand that is another of all that satisfy the cells.
pub outcome_for : {before after : List ℕ} {D E : Subst → Type 0} {r : Result (Unit {0}) Clash} → ((ρ : Subst) → Sat ρ (store_of before) → D ρ ↔ E ρ) → Outcome before after E r → Outcome before after D r
outcome_for equal = outcome_after refl (λ ρ. (λ (h, d). (h, (equal ρ h).0 d), λ (h, e). (h, (equal ρ h).1 e)))

-- What the answer says.
module _ {before after : List ℕ} {D : Subst → Type 0} {r : Result (Unit {0}) Clash} (o : Outcome before after D r) where
  pub outcome_is : {r' : Result (Unit {0}) Clash} → r ≡ r' → Outcome before after D r'
  outcome_is e = subst (Outcome before after D) e o

  pub met_sound : {u : Unit {0}} → r ≡ Ok u → Sound after
  met_sound met = (outcome_is met).says.sound

-- Two demands in a row: where the first is not met, both are not.
module _ {before between : List ℕ} {D E : Subst → Type 0} {first : Result (Unit {0}) Clash} (o : Outcome before between D first) where
  pub outcome_then : {u : Unit {0}} {after : List ℕ} {r : Result (Unit {0}) Clash} → first ≡ Ok u → Outcome between after E r → Outcome before after (λ ρ. D ρ × E ρ) r
  outcome_then met =
      let m = (outcome_is o met).says in
      outcome_after o.same_length (λ ρ. (λ (h, (d, e)). ((m.keeps ρ).0 (h, d), e), λ (h, e). let (h', d) = (m.keeps ρ).1 h in (h', (d, e))))

  pub outcome_fails : {e e' : Clash} → first ≡ Err e → Outcome before between (λ ρ. D ρ × E ρ) (Err e')
  outcome_fails unmet = record { same_length = o.same_length; says = λ ρ h (d, e). (outcome_is o unmet).says ρ h d }
