-- The functions of a system and their records, side by side.
use Rattle.std.proofs.Common.{◌≡◌, ℕ, List, Option, Some, None, refl, sym, ◌∙◌, ap, map, length, subst, ◌<◌, get_or}
use Rattle.std.specs.List.{Contains, slice_get}
use Rattle.std.specs.Option.{option_map}
use Rattle.std.proofs.lemmas.Option.{slice_get-map, slice_get_within, slice_get_read, get_or_from_slice_get}
use Rattle.std.proofs.lemmas.List.{length-map}
use Rattle.std.proofs.lemmas.List.Elements.{All-contains}
use Rattle.pci_spec.specs.System.{System, Function}
use Rattle.pci_spec.specs.Decoded.{IsDecodable, HasRecords, record_of}
use Rattle.pci_spec.specs.Decoded as decoded
use Rattle.pci_function.specs.Values.{record_value}
use Rattle.pci_function.specs.declared.record.Record.{Record}
use Rattle.pci_place.specs.Records.{IsRecordInSystem}

-- the records that an outline lends are those of the system
pub lent : (s : System) (records : List Record) {values : List decoded.Record} → map record_value records ≡ values → HasRecords s values → HasRecords s (map record_value records)
lent s records same has = subst (HasRecords s) (sym same) has

-- as many functions as records
pub same_count : (s : System) (records : List Record) → HasRecords s (map record_value records) → length s ≡ length records
same_count s records is = sym (length-map s record_of) ∙ ap length is.same ∙ length-map records record_value

-- the function at the place of a record
pub record FunctionAt (s : System) (r : Record) (k : ℕ) : Type 0 where
  pub f : Function
  pub at : slice_get s k ≡ Some f
  pub is : IsRecordInSystem s f r

pub function_at : (s : System) (records : List Record) → HasRecords s (map record_value records) → (k : ℕ) (r : Record) → slice_get records k ≡ Some r → FunctionAt s r k
function_at s records is k r at =
    elim (slice_get s k) as (λ (o : Option Function). slice_get s k ≡ o → FunctionAt s r k) [
      | None ↦ λ e.
          let both : option_map record_of (slice_get s k) ≡ Some (record_value r) = sym (slice_get-map record_of s k) ∙ ap (λ rs. slice_get rs k) is.same ∙ slice_get-map record_value records k ∙ ap (option_map record_value) at in
          let none : option_map record_of None ≡ Some (record_value r) = sym (ap (option_map record_of) e) ∙ both in
          cc
      | Some f ↦ λ e.
          let both : option_map record_of (slice_get s k) ≡ Some (record_value r) = sym (slice_get-map record_of s k) ∙ ap (λ rs. slice_get rs k) is.same ∙ slice_get-map record_value records k ∙ ap (option_map record_value) at in
          let some : Some (record_of f) ≡ Some (record_value r) = sym (ap (option_map record_of) e) ∙ both in
          let same : record_value r ≡ record_of f = cc in
          let within = slice_get_within s k f e in
          let listed : Contains s f = (k, within, get_or_from_slice_get s k f f e) in
          record { f = f; at = e; is = record { listed = listed; decodable = All-contains IsDecodable s f is.decodable listed; value = same } }
    ] refl

-- the function of the record that a pass has come to
pub function_read : (s : System) (records : List Record) {values : List decoded.Record} → map record_value records ≡ values → HasRecords s values
    → (k : ℕ) (r : Record) → k < length records → r ≡ get_or records k r → FunctionAt s r k
function_read s records same has k r within read = function_at s records (lent s records same has) k r (slice_get_read records (length records) k r refl within read)
