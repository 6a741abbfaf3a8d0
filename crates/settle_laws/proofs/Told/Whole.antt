-- A whole settling with told ranges and room behind slots: its result is off lines, and told ranges are reached.
use Rattle.std.proofs.Common.{◌≡◌, ◌⊎◌, ℕ, ◌≤◌, [], List, true, false, sym, ◌∙◌, ap, subst, take}
use Rattle.std.proofs.Math.Path.{fun_ext}
use Rattle.std.specs.Bool.{IsTrue}
use Rattle.std.specs.List.{Contains}
use Rattle.std.proofs.lemmas.Bool.{cond_both}
use Rattle.pci_spec.specs.System.{System, Function, passes}
use Rattle.pci_spec.specs.Machine.{Write, system_after}
use Rattle.plan_spec.specs.Plan.{bridges_above}
use Rattle.judge_spec.specs.ToldRegion.{ToldRegion, told_regions}
use Rattle.settle_spec.specs.Kept.{Kept}
use Rattle.settle_spec.specs.Lines.{line_bus, is_always_line, keeps_off_part}
use Rattle.settle_spec.specs.Lists.{Request, are_bad_lists}
use Rattle.settle_spec.specs.Parts.{FunctionPart, system_parts}
use Rattle.settle_spec.specs.Stands.{is_line_on, is_range_in_place, range_stands}
use Rattle.settle_spec.specs.Writes.{Settled}
use Rattle.settle_spec.specs.Keeping.Registers.{settled}
use Rattle.settle_spec.specs.Keeping.Writes.{settle_writes, settle_keeping}
use Rattle.settle_spec.specs.Sparing.{without_slots, have_spares, placing_request, grants, settle_sparing}
use Rattle.settle_laws.specs.StandingTold.Standing.{shares_with_line}
use Rattle.settle_laws.specs.Told.Ranges.{IsReached, IsFirstLineThere}
use Rattle.settle_laws.specs.Told.Starts.{IsQuiet}
use Rattle.settle_laws.specs.Told.Whole.{IsSettledBy, StoodThere}
use Rattle.settle_laws.specs.StandingTold.Kept.{LinesAreForward}
use Rattle.settle_laws.specs.Keeping.PlacesLaws.{CanSettle}
use Rattle.settle_laws.specs.ToldSoundLaws.{KeepsTold}
use Rattle.settle_laws.proofs.Keeping.Stopping.{writes_settle}
use Rattle.settle_laws.proofs.Told.Ended.{keeps_told, told_end}
use Rattle.settle_laws.proofs.Told.Forward.{told_forward}
use Rattle.settle_laws.proofs.Told.Slots.{stand_alike, range_alike}
use Rattle.settle_laws.proofs.Told.HeldAtStops.{passes_at_stop}
use Rattle.settle_laws.proofs.Told.NothingSettled.{begun, nothing_spared}
use Rattle.settle_laws.proofs.Told.OffLines.{settled_off_lines}
use Rattle.settle_laws.proofs.Told.QuietStart.{needs_nothing}
use Rattle.settle_laws.proofs.Told.RangesStay.{parts_off, reached, range_stays}
use Rattle.settle_laws.proofs.Told.Settling.{beside_wishes, sparing_can}

module _ (q : Request) (s : System) (writes : List Write) (by : IsSettledBy q s writes) where
  abbrev p : Request
  p = placing_request q s

  abbrev j : Kept
  j = (grants q s).kept

  abbrev t : System
  t = system_after s writes

  beside : settle_keeping p s j ≡ Settled writes
  beside = beside_wishes q s by.admitted writes by.settles

  can : CanSettle p s j
  can = (sparing_can q s by.admitted writes by.settles).1

  keeps : KeepsTold p s j
  keeps = keeps_told p s j writes beside

  same_writes : settle_writes p s j ≡ writes
  same_writes = (told_end p s j writes beside).same

  forward : LinesAreForward p
  forward = cond_both (have_spares q s) q (without_slots q) LinesAreForward (λ spares. told_forward q by.told) (λ none. told_forward q by.told)

  result_is : settled p s j ≡ t
  result_is = sym (writes_settle p s j can) ∙ ap (system_after s) same_writes

  -- what is said of the request for places is said of the request, as slots say nothing of what stands
  of_request : (P : Request → Type 0) → (P (without_slots q) → P q) → P p → P q
  of_request P less = cond_both (have_spares q s) q (without_slots q) (λ r. P r → P q) (λ spares has. has) (λ none. less)

  -- ---- lines

  abbrev OffLines : Request → Type 0
  OffLines r = (u : FunctionPart) (x : ToldRegion) → Contains (system_parts r t) u → Contains (told_regions r.told) x → keeps_off_part r x u ≡ true → StoodThere r s u.function.slot u.part x

  pub result_off_lines : OffLines q
  result_off_lines = of_request OffLines less here
    where
      less : OffLines (without_slots q) → OffLines q
      less all u x listed is_told keeps =
          let h = all u x listed is_told keeps in
          record {
            f = h.f;
            listed = h.listed;
            slot_is = h.slot_is;
            off = h.off;
            stood = sym (stand_alike q [] s record { function = h.f; part = u.part }) ∙ h.stood;
            first = h.first;
            shares = h.shares;
          }

      here : OffLines p
      here u x listed is_told keeps =
          let h = settled_off_lines p s j can forward u x (subst (λ v. Contains (system_parts p v) u) (sym result_is) listed) is_told keeps in
          record {
            f = h.f;
            listed = h.listed;
            slot_is = h.slot_is;
            off = h.stood.off;
            stood = h.stood.stood;
            first = h.stood.first;
            shares = h.stood.shares;
          }

  -- ---- told ranges

  module _ (x : ToldRegion) where
    abbrev OffRanges : Request → Type 0
    OffRanges r = Contains (told_regions r.told) x → range_stands r s x ≡ true → (u : FunctionPart) → Contains (system_parts r t) u → shares_with_line r u x ≡ false

    pub result_off_ranges : OffRanges q
    result_off_ranges = of_request OffRanges
        (λ all is_told stand u listed. all is_told (range_alike q [] s x ∙ stand) u listed)
        (λ is_told stand u listed. parts_off p s j can keeps forward x is_told stand u (subst (λ v. Contains (system_parts p v) u) (sym result_is) listed))

    abbrev Reaches : Request → Type 0
    Reaches r = Contains (told_regions r.told) x → range_stands r s x ≡ true → IsReached r t x

    pub result_reaches : Reaches q
    result_reaches = of_request Reaches
        (λ all is_told stand.
        let h = all is_told (range_alike q [] s x ∙ stand) in
        record { place = subst (λ test. is_range_in_place q t test x ≡ true) (fun_ext (stand_alike q [] t)) h.place; off_held = h.off_held })
        (λ is_told stand. subst (λ v. IsReached p v x) result_is (reached p s j can keeps forward x is_told stand))

    abbrev Keeps : Request → Type 0
    Keeps r = Contains (told_regions r.told) x → range_stands r s x ≡ true → IsTrue (is_line_on r t x) ⊎ IsFirstLineThere r x → range_stands r t x ≡ true

    pub result_keeps : Keeps q
    result_keeps = of_request Keeps
        (λ all is_told stand either. sym (range_alike q [] t x) ∙ all is_told (range_alike q [] s x ∙ stand) either)
        (λ is_told stand either.
        subst (λ v. range_stands p v x ≡ true) result_is
        (range_stays p s j can keeps forward x is_told stand (subst (λ v. IsTrue (is_line_on p v x) ⊎ IsFirstLineThere p x) (sym result_is) either)))

    -- ---- stops

    module _ (b : Function) (n : ℕ) where
      abbrev Throughout : Request → Type 0
      Throughout r =
          Contains (told_regions r.told) x → is_always_line x ≡ true → range_stands r s x ≡ true → Contains (bridges_above s (line_bus x)) b
          → (now : Function) × Contains (system_after s (take n writes)) now × (now.slot ≡ b.slot)
          × ((a : ℕ) → x.told.first ≤ a → a ≤ x.told.last → passes x.told.space x.told.prefetchable a now ≡ true)

      pub always_throughout : Throughout q
      always_throughout = of_request Throughout
          (λ all is_told always stand above. all is_told always (range_alike q [] s x ∙ stand) above)
          (λ is_told always stand above.
          let h = passes_at_stop p s j can keeps x is_told always stand b above n in
          (h.0, subst (λ ws. Contains (system_after s (take n ws)) h.0) same_writes h.1.there, h.1.slot, h.2))

-- ---- a quiet start

pub quiet_settles : (q : Request) (s : System) → IsQuiet q s → are_bad_lists q.roots q.lists ≡ false → q.slots ≡ [] → settle_sparing q s ≡ Settled []
quiet_settles q s quiet fine none = nothing_spared q s (begun q s (needs_nothing q s quiet)) fine none
