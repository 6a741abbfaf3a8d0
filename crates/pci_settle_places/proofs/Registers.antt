-- Each BAR of a record is at one of the Base Address registers of its function.
use Rattle.std.proofs.Common.{◌≡◌, ℕ, ◌<◌, ◌≤◌, Bool, true, false, List, map, length, arith, refl, sym, ap, subst, get_or}
use Rattle.std.specs.Bool.{◌==◌, if◌then◌else◌}
use Rattle.std.specs.List.{All, Contains, range_with_len}
use Rattle.std.proofs.lemmas.List.Elements.{Contains-get_or}
use Rattle.std.proofs.lemmas.Option.{slice_get_read}
use Rattle.pci_spec.specs.Header.{layout, bar_count}
use Rattle.pci_spec.specs.Bar.{has_bar}
use Rattle.pci_spec.specs.Decoded.{DecodedBar, HasRecords, decoded_bar}
use Rattle.pci_spec.specs.System.{System, Function}
use Rattle.pci_spec.proofs.Members.{IsMade, in_filter_to, in_map_to, in_map_from, in_range_to}
use Rattle.pci_image.specs.Bars.{decoded_bar_of}
use Rattle.pci_function.specs.declared.record.Record.{Record}
use Rattle.pci_function.specs.Values.{record_value}
use Rattle.pci_place.specs.Records.{IsRecordInSystem}
use Rattle.pci_place.proofs.Records.{FunctionAt, function_at}
use Rattle.pci_place.proofs.Parts.{bars_in, bars_of}
use Rattle.pci_settle_places.specs.Shown.{HasRegister}

few_by : (b : Bool) → (if b then 2 else 6) ≤ 6
few_by true = omega arith
few_by false = omega arith

pub have_registers : (s : System) (f : Function) (r : Record) → IsRecordInSystem s f r → All HasRegister r.bars.items
have_registers s f r is k d less =
    let bar = get_or r.bars.items k d in
    let all = range_with_len 0 (bar_count (layout f.image)) in
    let made : IsMade (decoded_bar f.image f.probe) (bars_in f) (decoded_bar_of bar) =
    in_map_to (decoded_bar f.image f.probe) (bars_in f) (decoded_bar_of bar)
    (subst (λ bars. Contains bars (decoded_bar_of bar)) (bars_of s f r is) (in_map_from decoded_bar_of r.bars.items bar (Contains-get_or r.bars.items k d less))) in
    let kept = in_filter_to (has_bar f.probe) all made.from made.has in
    let inside = (in_range_to 0 (bar_count (layout f.image)) made.from kept.0).1 in
    let few = few_by (layout f.image == 1) in
    (made.from, omega (arith, inside, few), sym (ap (λ (x : DecodedBar). x.register) made.is))

-- so is each BAR of the records of a system
pub registers_at : (s : System) (records : List Record) → HasRecords s (map record_value records) → (k : ℕ) (r : Record) → k < length records → r ≡ get_or records k r → All HasRegister r.bars.items
registers_at s records has k r within read =
    let here : FunctionAt s r k = function_at s records has k r (slice_get_read records (length records) k r refl within read) in
    have_registers s here.f r here.is
