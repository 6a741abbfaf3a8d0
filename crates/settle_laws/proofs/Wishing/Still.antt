-- Where each part stands, all that stays is kept as it stands, and nothing else is there.
use Rattle.std.proofs.Common.{◌≡◌, inl, inr, [], true, false, refl, sym, ◌∙◌, ap, None, Some}
use Rattle.std.specs.Bool.{beq}
use Rattle.std.specs.List.{Contains}
use Rattle.std.proofs.lemmas.Bool.{and_from, both_ways, cases_Bool, false_from_ne_true}
use Rattle.pci_spec.specs.Decoded.{Range}
use Rattle.pci_spec.specs.System.{System, Function, Part}
use Rattle.pci_spec.proofs.BusRanges.{all_from}
use Rattle.settle_spec.specs.Lists.{Request}
use Rattle.settle_spec.specs.Parts.{FunctionPart, system_parts, header_parts, addresses, is_part}
use Rattle.settle_spec.specs.Kept.{Kept, as_it_stands, growing}
use Rattle.settle_spec.specs.Growing.{kept_by, settle_growing, finally_kept}
use Rattle.settle_spec.specs.Wishes.{range_then}
use Rattle.settle_spec.specs.Sparing.{without_slots, is_settled, keep_alike, have_spares}
use Rattle.settle_laws.specs.PlacesLaws.{place_range}
use Rattle.settle_laws.proofs.GrownAlready.{none_grows}
use Rattle.settle_laws.proofs.Kept.{in_regions}
use Rattle.settle_laws.proofs.Told.Slots.{start_with}
use Rattle.settle_laws.proofs.Told.NothingSettled.{IsStart, grown_settles, nothing_grows, keeps_growing, only_growing}
use Rattle.settle_laws.proofs.Keeping.InWindows.{kept_range, placed_range}
use Rattle.settle_laws.proofs.Keeping.Standing.{no_place}

-- ---- where each part stands

module _ (q : Request) (t : System) (start : IsStart q t) where
  abbrev w : Request
  w = without_slots q

  abbrev k : Kept
  k = growing q t

  pub finally_is : finally_kept q t ≡ k
  finally_is = ap (λ o. kept_by o (growing q t) (as_it_stands q t)) (grown_settles q t start.needs start.fine)

  without : IsStart w t
  without = start_with q [] t start

  finally_without : finally_kept w t ≡ growing w t
  finally_without = ap (λ o. kept_by o (growing w t) (as_it_stands w t)) (grown_settles w t without.needs without.fine)

  pub settled_without : is_settled (settle_growing w t) ≡ true
  settled_without = ap is_settled (nothing_grows w t without.needs without.fine)

  both_keep : (r : FunctionPart) → Contains (system_parts q t) r → beq ((finally_kept w t).stays r) ((finally_kept q t).stays r) ≡ true
  both_keep r has =
      let other = ap (λ i. i.stays r) finally_without ∙ keeps_growing w t without.needs r has in
      let own = ap (λ i. i.stays r) finally_is ∙ keeps_growing q t start.needs r has in
      λ i. beq (other i) (own i)

  pub have : have_spares q t ≡ true
  have = and_from (is_settled (settle_growing q t)) (keep_alike q t (finally_kept w t) (finally_kept q t)) (ap is_settled (nothing_grows q t start.needs start.fine))
      (all_from (λ r. beq ((finally_kept w t).stays r) ((finally_kept q t).stays r)) (system_parts q t) both_keep)

  -- ---- what is there

  pub keeps : (r : FunctionPart) → Contains (system_parts q t) r → k.stays r ≡ true
  keeps = keeps_growing q t start.needs

  pub stays_there : (r : FunctionPart) → Contains (system_parts q t) r → range_then q t k r ≡ Some (addresses r)
  stays_there r has = kept_range q t k r (keeps r has) ∙ ap Some (none_grows q t start.needs.system start.needs.nested start.needs.stand r has)

  -- what isn't looked at is nowhere
  pub nowhere : (f : Function) (p : Part) → Contains t f → is_part q t f p ≡ false → range_then q t k record { function = f; part = p } ≡ None
  nowhere f p listed none =
      let r : FunctionPart = record { function = f; part = p } in
      let moves = false_from_ne_true (k.stays r) (λ keeps_it. both_ways (is_part q t f p) none (only_growing q t start.needs r listed keeps_it)) in
      placed_range q t k r moves ∙ ap place_range (no_place q t k start.needs.system start.needs.nested start.needs.stand keeps (none_grows q t start.needs.system start.needs.nested start.needs.stand) (only_growing q t start.needs) refl r)

  pub only_there : (f : Function) (p : Part) → Contains t f → Contains (header_parts f) p → (u : Range) → range_then q t k record { function = f; part = p } ≡ Some u → Contains (system_parts q t) record { function = f; part = p }
  only_there f p listed there u ends =
      elim (cases_Bool (is_part q t f p)) [
        | inl part ↦ in_regions q t f p listed there part
        | inr none ↦
            let is : None ≡ Some u = sym (nowhere f p listed none) ∙ ends in
            absurd (let no : ⊥ = cc in no)
      ]
