-- Each write of settling is of Command or of an address register.
use Rattle.std.proofs.Common.{inl, inr, [], ◌∷◌, ◌++◌, refl, sym, subst}
use Rattle.std.specs.List.{Contains, flat_map}
use Rattle.std.proofs.lemmas.List.{append-nil}
use Rattle.std.proofs.lemmas.List.Elements.{Contains-append_cases}
use Rattle.pci_spec.specs.Registers.{COMMAND}
use Rattle.pci_spec.specs.Header.{layout, address_registers}
use Rattle.pci_spec.specs.System.{System, Function, is_bridge}
use Rattle.pci_spec.specs.Machine.{Write}
use Rattle.pci_spec.proofs.Members.{in_nil, in_cons_cases, in_head, in_tail, IsInPiece, in_flat_map_to}
use Rattle.plan_spec.specs.Planning.PlanWrites.{register_write}
use Rattle.plan_spec.proofs.Planning.Registers.{number_below}
use Rattle.settle_spec.specs.Lists.{Request}
use Rattle.settle_spec.specs.Kept.{Kept}
use Rattle.settle_spec.specs.Writes.{closing_registers, setting_registers}
use Rattle.settle_spec.specs.Keeping.Registers.{settled_function}
use Rattle.settle_spec.specs.Keeping.Writes.{closed_function, change_to_closed, setting_of, closing_from, setting_from, opening_from, closings, settle_writes}
use Rattle.settle_laws.specs.Keeping.PlacesLaws.{CanSettle}
use Rattle.settle_laws.proofs.Stages.{AreStates}
use Rattle.settle_laws.proofs.StageRegisters.{IsRegisterWrite as IsChangeWrite, closing_among, register_write_is}
use Rattle.settle_laws.proofs.StageProgress.{setting_to}
use Rattle.settle_laws.proofs.Keeping.SettlingStages.{are_states}
use Rattle.pci_plan.specs.Moves.{IsRegisterWrite}

module _ (q : Request) (s : System) (k : Kept) (can : CanSettle q s k) where
  abbrev closed : Function → Function
  closed f = closed_function q s k f

  abbrev final : Function → Function
  final f = settled_function q s k f

  states : AreStates s closed final
  states = are_states q s k can

  of_closing : (f : Function) → Contains s f → (w : Write) → Contains (closing_from q s k f) w → IsRegisterWrite s w
  of_closing f listed w has =
      let x : IsChangeWrite (change_to_closed q s k f) (closing_registers f) w = register_write_is (change_to_closed q s k f) (closing_registers f) w has in
      subst (IsRegisterWrite s) x.is record {
        f = f;
        listed = listed;
        slot = refl;
        register = closing_among (is_bridge f) x.r x.listed;
        small = number_below (closed f).image x.r.0 (states.closed_moved f listed).image x.r.1;
      }

  of_closings : (t : System) → ((f : Function) → Contains t f → Contains s f) → (w : Write) → Contains (closings q s k t) w → IsRegisterWrite s w
  of_closings [] sub w has = absurd (in_nil w has)
  of_closings (f ∷ t) sub w has = elim (Contains-append_cases (closings q s k t) (closing_from q s k f) w has) [
    | inl more ↦ of_closings t (λ g listed. sub g (in_tail f t g listed)) w more
    | inr own ↦ of_closing f (sub f (in_head f t)) w own
  ]

  of_setting : (f : Function) → Contains s f → (w : Write) → Contains (setting_from q s k f) w → IsRegisterWrite s w
  of_setting f listed w has =
      let c = setting_of q s k f in
      let x : IsChangeWrite c (setting_registers c) w = register_write_is c (setting_registers c) w has in
      subst (IsRegisterWrite s) x.is record {
        f = f;
        listed = listed;
        slot = refl;
        register = in_tail (COMMAND, 2) (address_registers (layout f.image)) x.r (setting_to s can.system closed final states f listed x.r x.listed);
        small = number_below (final f).image x.r.0 (states.final_moved f listed).image x.r.1;
      }

  of_opening : (f : Function) → Contains s f → (w : Write) → Contains (opening_from q s k f) w → IsRegisterWrite s w
  of_opening f listed w has =
      let c = setting_of q s k f in
      let one : Contains (flat_map (register_write c) ((COMMAND, 2) ∷ [])) w = subst (λ ws. Contains ws w) (sym (append-nil (opening_from q s k f))) has in
      let x : IsChangeWrite c ((COMMAND, 2) ∷ []) w = register_write_is c ((COMMAND, 2) ∷ []) w one in
      subst (IsRegisterWrite s) x.is record {
        f = f;
        listed = listed;
        slot = refl;
        register = elim (in_cons_cases (COMMAND, 2) [] x.r x.listed) [
          | inl is ↦ subst (Contains ((COMMAND, 2) ∷ address_registers (layout f.image))) is (in_head (COMMAND, 2) (address_registers (layout f.image)))
          | inr none ↦ absurd (in_nil x.r none)
        ];
        small = number_below (final f).image x.r.0 (states.final_moved f listed).image x.r.1;
      }

  pub of_settling : (w : Write) → Contains (settle_writes q s k) w → IsRegisterWrite s w
  of_settling w has = elim (Contains-append_cases (closings q s k s) (flat_map (setting_from q s k) s ++ flat_map (opening_from q s k) s) w has) [
    | inl closing ↦ of_closings s (λ f listed. listed) w closing
    | inr later ↦ elim (Contains-append_cases (flat_map (setting_from q s k) s) (flat_map (opening_from q s k) s) w later) [
      | inl set ↦ let piece : IsInPiece (setting_from q s k) s w = in_flat_map_to (setting_from q s k) s w set in of_setting piece.of piece.has w piece.piece
      | inr opened ↦ let piece : IsInPiece (opening_from q s k) s w = in_flat_map_to (opening_from q s k) s w opened in of_opening piece.of piece.has w piece.piece
    ]
  ]
