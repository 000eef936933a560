-- Two types have the same written form exactly if they differ by a renaming of variables, and exactly if each is an instance of the
-- other; so all most general types of an expression have one written form.
use Rattle.std.specs.Prelude.{ℕ, suc, ◌+◌, ◌-◌, ◌≤◌, ◌≡◌, Bool, cond, ◌||◌, List, [], ◌∷◌, ◌++◌, ◌↔◌, eqb, get_or}
use Rattle.std.proofs.Math.Path.{refl}
use Rattle.std.proofs.Common.{sym, ◌∙◌, ap, ap₂, append_assoc, append-nil, arith, eqb-true, eq-eqb, ne_eqb}
use Rattle.std.proofs.Math.Bool.{true, false, or_assoc}
use Rattle.std.proofs.Math.Decide.{ℕ_discrete}
use Rattle.std.proofs.Math.ListN.{get_or-eq_default}
use Rattle.language.specs.Expression.{Exp}
use Rattle.language.specs.Environment.{Env}
use Rattle.language.specs.Ty.{Ty, unit, bool, int, ◌⇒◌, var, Subst, apply, Instance}
use Rattle.language.proofs.TyLaws.{apply_compose}
use Rattle.language.specs.Principal.{Principal}
use Rattle.language.specs.WrittenForm.{is_among, appearing, place_in, spell, words_of, Renamed}

clash : {A : Type 0} → ◌≡◌ {A = ℕ} 0 1 → A
clash e = absurd (omega arith)

-- ---- Instances of one another have the same words

-- Variables that s and s' exchange; lists of them; and types that differ by such variables only.
record Exchanged (s s' : Subst) (α β : ℕ) : Type 0 where
  there : s α ≡ var β
  back : s' β ≡ var α

data ExchangedAll (s s' : Subst) : List ℕ → List ℕ → Type 0 where
  none : ExchangedAll s s' [] []
  also : {α β : ℕ} {αs βs : List ℕ} → Exchanged s s' α β → ExchangedAll s s' αs βs → ExchangedAll s s' (α ∷ αs) (β ∷ βs)

data ExchangedIn (s s' : Subst) : Ty → Ty → Type 0 where
  units : ExchangedIn s s' unit unit
  bools : ExchangedIn s s' bool bool
  ints : ExchangedIn s s' int int
  arrows : {τ₁ τ₂ τ₁' τ₂' : Ty} → ExchangedIn s s' τ₁ τ₁' → ExchangedIn s s' τ₂ τ₂' → ExchangedIn s s' (τ₁ ⇒ τ₂) (τ₁' ⇒ τ₂')
  vars : {α β : ℕ} → Exchanged s s' α β → ExchangedIn s s' (var α) (var β)

-- What s' turns back, s changed in its variables only.
undone_exchanged : (s s' : Subst) (τ : Ty) → apply s' (apply s τ) ≡ τ → ExchangedIn s s' τ (apply s τ)
unfolding apply
undone_exchanged s s' unit e = units
undone_exchanged s s' bool e = bools
undone_exchanged s s' int e = ints
undone_exchanged s s' (τ₁ ⇒ τ₂) e = arrows (undone_exchanged s s' τ₁ (cc)) (undone_exchanged s s' τ₂ (cc))
undone_exchanged s s' (var α) e = go (s α) refl e
  where
    go : (τ : Ty) → s α ≡ τ → apply s' τ ≡ var α → ExchangedIn s s' (var α) τ
    go unit p q = clash (cc)
    go bool p q = clash (cc)
    go int p q = clash (cc)
    go (τ₁ ⇒ τ₂) p q = clash (cc)
    go (var β) p q = vars (record { there = p; back = q })

module _ {s s' : Subst} where
  -- Numbering asks of variables only whether they are equal, and exchanging keeps that.
  exchanged_eqb : {α β α' β' : ℕ} → Exchanged s s' α β → Exchanged s s' α' β' → eqb α α' ≡ eqb β β'
  exchanged_eqb {α} {β} {α'} {β'} x x' = go (ℕ_discrete α α') (ℕ_discrete β β')
    where
      go : Dec (α ≡ α') → Dec (β ≡ β') → eqb α α' ≡ eqb β β'
      go (yes p) (yes q) = rw (eq-eqb α α', eq-eqb β β')
      go (no p) (no q) = rw (ne_eqb α α', ne_eqb β β')
      go (yes p) (no q) = absurd (q (cc))
      go (no p) (yes q) = absurd (p (cc))

  among_exchanged : {α β : ℕ} {αs βs : List ℕ} → Exchanged s s' α β → ExchangedAll s s' αs βs → is_among α αs ≡ is_among β βs
  unfolding is_among
  among_exchanged x none = refl
  among_exchanged x (also y ys) = rw (exchanged_eqb x y, among_exchanged x ys)

  place_exchanged : {α β : ℕ} {αs βs : List ℕ} → Exchanged s s' α β → ExchangedAll s s' αs βs → place_in αs α ≡ place_in βs β
  unfolding place_in
  place_exchanged x none = refl
  place_exchanged x (also y ys) = rw (exchanged_eqb x y, place_exchanged x ys)

  exchanged_append : {α β : ℕ} {αs βs : List ℕ} → ExchangedAll s s' αs βs → Exchanged s s' α β → ExchangedAll s s' (αs ++ α ∷ []) (βs ++ β ∷ [])
  exchanged_append none x = also x none
  exchanged_append (also y ys) x = also y (exchanged_append ys x)

  appearing_exchanged : {αs βs : List ℕ} {τ τ' : Ty} → ExchangedAll s s' αs βs → ExchangedIn s s' τ τ' → ExchangedAll s s' (appearing αs τ) (appearing βs τ')
  unfolding appearing
  appearing_exchanged xs units = xs
  appearing_exchanged xs bools = xs
  appearing_exchanged xs ints = xs
  appearing_exchanged {αs} {βs} xs (arrows {τ₁} {τ₂} {τ₁'} {τ₂'} x₁ x₂) =
      appearing_exchanged {αs = appearing αs τ₁} {βs = appearing βs τ₁'} (appearing_exchanged xs x₁) x₂
  appearing_exchanged {αs} {βs} xs (vars {α} {β} x) = rw (among_exchanged x xs) (go (is_among β βs))
    where
      go : (t : Bool) → ExchangedAll s s' (cond t αs (αs ++ α ∷ [])) (cond t βs (βs ++ β ∷ []))
      go true = xs
      go false = exchanged_append xs x

  spell_exchanged : {αs βs : List ℕ} {τ τ' : Ty} → ExchangedAll s s' αs βs → ExchangedIn s s' τ τ' → spell (place_in αs) τ ≡ spell (place_in βs) τ'
  unfolding spell
  spell_exchanged xs units = refl
  spell_exchanged xs bools = refl
  spell_exchanged xs ints = refl
  spell_exchanged xs (arrows x₁ x₂) = rw (spell_exchanged xs x₁, spell_exchanged xs x₂)
  spell_exchanged xs (vars x) = rw (place_exchanged x xs)

instances_same_words : {τ τ' : Ty} → Instance τ τ' → Instance τ' τ → words_of τ ≡ words_of τ'
unfolding words_of
instances_same_words {τ} {τ'} i i' = spell_exchanged (appearing_exchanged none x) x
  where
    x : ExchangedIn i.by i'.by τ τ'
    x = rw i.is at (undone_exchanged i.by i'.by τ (ap (apply i'.by) i.is ∙ i'.is))

-- ---- The same words make a renaming

-- Reading words from the right: each puts a type on a stack, 4 takes the two parts from it.
arrow : List Ty → List Ty
arrow [] = []
arrow (τ₁ ∷ []) = []
arrow (τ₁ ∷ τ₂ ∷ τs) = (τ₁ ⇒ τ₂) ∷ τs

push : ℕ → List Ty → List Ty
push w τs = get_or ([] ∷ (unit ∷ τs) ∷ (bool ∷ τs) ∷ (int ∷ τs) ∷ arrow τs ∷ []) w (var (w - 16) ∷ τs)

read : List ℕ → List Ty
read [] = []
read (w ∷ ws) = push w (read ws)

read_spell : (f : ℕ → ℕ) (τ : Ty) (ws : List ℕ) → read (spell f τ ++ ws) ≡ apply (λ α. var (f α)) τ ∷ read ws
unfolding read spell apply arrow push
read_spell f unit ws = refl
read_spell f bool ws = refl
read_spell f int ws = refl
read_spell f (τ₁ ⇒ τ₂) ws = rw (append_assoc (spell f τ₁) (spell f τ₂) ws, read_spell f τ₁ (spell f τ₂ ++ ws), read_spell f τ₂ ws)
read_spell f (var α) ws =
    let past : 5 ≤ 16 + f α = omega arith in
    let k : 16 + f α - 16 ≡ f α = omega arith in
    rw (get_or-eq_default, k)

among_append : (α : ℕ) (βs γs : List ℕ) → is_among α (βs ++ γs) ≡ (is_among α βs || is_among α γs)
unfolding is_among
among_append α [] γs = refl
among_append α (β ∷ βs) γs = rw (among_append α βs γs, or_assoc)

-- A variable that appeared stays in the list.
stays : (α : ℕ) (before : List ℕ) (τ : Ty) → is_among α before ≡ true → is_among α (appearing before τ) ≡ true
unfolding appearing
stays α before unit h = h
stays α before bool h = h
stays α before int h = h
stays α before (τ₁ ⇒ τ₂) h = stays α (appearing before τ₁) τ₂ (stays α before τ₁ h)
stays α before (var β) h = go (is_among β before)
  where
    go : (t : Bool) → is_among α (cond t before (before ++ β ∷ [])) ≡ true
    go true = h
    go false = rw (among_append, h)

appears : (α : ℕ) (before : List ℕ) → is_among α (appearing before (var α)) ≡ true
unfolding appearing is_among
appears α before = go (is_among α before) refl
  where
    go : (t : Bool) → is_among α before ≡ t → is_among α (cond t before (before ++ α ∷ [])) ≡ true
    go true e = e
    go false e = rw (among_append, e, eq-eqb α α refl)

-- The place of a variable is where the list has it.
at_place : (α : ℕ) (βs : List ℕ) → is_among α βs ≡ true → get_or βs (place_in βs α) 0 ≡ α
unfolding is_among place_in
at_place α [] h = clash (cc)
at_place α (β ∷ βs) h = go (eqb α β) refl h (at_place α βs)
  where
    go : (t : Bool) → eqb α β ≡ t → (t || is_among α βs) ≡ true → (is_among α βs ≡ true → get_or βs (place_in βs α) 0 ≡ α) → get_or (β ∷ βs) (cond t 0 (suc (place_in βs α))) 0 ≡ α
    go true e h later = sym (eqb-true α β e)
    go false e h later = later h

abbrev numbered : List ℕ → Subst
numbered βs α = var (place_in βs α)

abbrev named : List ℕ → Subst
named βs k = var (get_or βs k 0)

-- A list with all variables of a type turns their places back into them.
named_numbered : (βs before : List ℕ) (τ : Ty) → ((α : ℕ) → is_among α (appearing before τ) ≡ true → is_among α βs ≡ true) → apply (named βs) (apply (numbered βs) τ) ≡ τ
unfolding apply appearing
named_numbered βs before unit h = refl
named_numbered βs before bool h = refl
named_numbered βs before int h = refl
named_numbered βs before (τ₁ ⇒ τ₂) h =
    ap₂ ◌⇒◌ (named_numbered βs before τ₁ (λ α k. h α (stays α (appearing before τ₁) τ₂ k))) (named_numbered βs (appearing before τ₁) τ₂ h)
named_numbered βs before (var α) h = ap var (at_place α βs (h α (appears α before)))

read_words : (τ : Ty) → read (words_of τ) ≡ apply (numbered (appearing [] τ)) τ ∷ []
unfolding words_of read
read_words τ = rw append-nil at (read_spell (place_in (appearing [] τ)) τ [])

-- The variable of τ' at the place that α has in τ.
abbrev counterpart : Ty → Ty → ℕ → ℕ
counterpart τ τ' α = get_or (appearing [] τ') (place_in (appearing [] τ) α) 0

same_words_counterparts : (τ τ' : Ty) → words_of τ ≡ words_of τ' → apply (λ α. var (counterpart τ τ' α)) τ ≡ τ'
unfolding apply
same_words_counterparts τ τ' e =
    let βs = appearing [] τ' in
    let same : apply (numbered (appearing [] τ)) τ ≡ apply (numbered βs) τ' = cc (ap read e, read_words τ, read_words τ') in
    apply_compose (numbered (appearing [] τ)) (named βs) τ ∙ ap (apply (named βs)) same ∙ named_numbered βs [] τ' (λ α h. h)

pub same_words_renamed : (τ τ' : Ty) → words_of τ ≡ words_of τ' → Renamed τ τ'
same_words_renamed τ τ' e =
    record { to = counterpart τ τ'; from = counterpart τ' τ; there = same_words_counterparts τ τ' e; back = same_words_counterparts τ' τ (sym e) }

-- ---- The equivalences

pub renamed_instances : {τ τ' : Ty} → Renamed τ τ' → Instance τ τ' × Instance τ' τ
renamed_instances r = (record { by = λ α. var (r.to α); is = r.there }, record { by = λ α. var (r.from α); is = r.back })

pub renamed_same_words : {τ τ' : Ty} → Renamed τ τ' → words_of τ ≡ words_of τ'
renamed_same_words r = let i = renamed_instances r in instances_same_words i.0 i.1

pub same_words_exactly_renamed : (τ τ' : Ty) → (words_of τ ≡ words_of τ') ↔ Renamed τ τ'
same_words_exactly_renamed τ τ' = (same_words_renamed τ τ', renamed_same_words)

pub same_words_exactly_instances : (τ τ' : Ty) → (words_of τ ≡ words_of τ') ↔ (Instance τ τ' × Instance τ' τ)
same_words_exactly_instances τ τ' = (λ e. renamed_instances (same_words_renamed τ τ' e), λ i. instances_same_words i.0 i.1)

pub principal_same_words : {Γ : Env Ty} {e : Exp} {τ τ' : Ty} → Principal Γ e τ → Principal Γ e τ' → words_of τ ≡ words_of τ'
principal_same_words {τ = τ} {τ' = τ'} p p' = instances_same_words (p.most_general τ' p'.typed) (p'.most_general τ p.typed)
