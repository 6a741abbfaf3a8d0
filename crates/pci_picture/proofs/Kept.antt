-- What was drawn stays content.
use Rattle.std.proofs.Common.{◌≡◌, ◌<◌, ◌^◌, ℕ, Bool, true, false, if◌then◌else◌, List, [], ◌++◌, Result, Ok, Err, IfOk, sym, subst}
use Rattle.std.proofs.Math.Logic.{∥∥₁_map, ∥∥₁_elim, ∥∥₁_prop}
use Rattle.pci_picture.specs.Xml.{IsContent, IsDocument, nothing}
use Rattle.pci_picture.specs.Whole.{IsPictureText, picture_text}
use Rattle.pci_picture.proofs.Contents.{content_append}
use Rattle.pci_picture.proofs.Head.{picture_document}

-- an element behind content, where it was appended
pub kept : (ok : Bool) (old new s e : List ℕ) → ∥ IsContent old ∥₁ → ∥ IsContent e ∥₁ → new ≡ (if ok then old ++ s else old) → s ≡ e
    → ∥ IsContent new ∥₁
kept true old new s e before drawn grown same =
    let Q : List ℕ → Type 0 = λ t. ∥ IsContent t ∥₁ in
    let behind : Q (old ++ e) = ∥∥₁_elim before ∥∥₁_prop (λ h. ∥∥₁_map drawn (λ d. content_append old e h d)) in
    subst Q (sym grown) (subst (λ (t : List ℕ). Q (old ++ t)) (sym same) behind)
kept false old new s e before drawn grown same = let Q : List ℕ → Type 0 = λ t. ∥ IsContent t ∥₁ in subst Q (sym grown) before

-- nothing
pub none_drawn : (new : List ℕ) → new ≡ [] → ∥ IsContent new ∥₁
none_drawn new is = let Q : List ℕ → Type 0 = λ t. ∥ IsContent t ∥₁ in subst Q (sym is) ∣ nothing ∣₁

-- an element alone
pub made : (old new e : List ℕ) → IsContent e → old ≡ [] → new ≡ old ++ e → ∥ IsContent new ∥₁
made old new e drawn empty is =
    let Q : List ℕ → Type 0 = λ t. ∥ IsContent t ∥₁ in
    subst Q (sym is) (subst (λ (t : List ℕ). Q (t ++ e)) (sym empty) ∣ drawn ∣₁)

-- the whole
pub finished : {T E : Type 0} (result : Result T E) (bytes : T → List ℕ) (is_told : Bool) (boxes words : List ℕ) (width height : ℕ)
    → width < 2 ^ 64 → height < 2 ^ 64 → ∥ IsContent boxes ∥₁ → ∥ IsContent words ∥₁
    → IfOk result (λ t. bytes t ≡ picture_text is_told boxes words width height) → IfOk result (λ t. IsPictureText (bytes t))
finished (Err e) bytes is_told boxes words width height sw sh b w is = tt
finished (Ok t) bytes is_told boxes words width height sw sh b w is =
    let Q : List ℕ → Type 0 = λ v. ∥ IsDocument v ∥₁ in
    subst Q (sym is) (∥∥₁_elim b ∥∥₁_prop (λ hb. ∥∥₁_map w (λ hw. picture_document is_told boxes words width height sw sh hb hw)))
