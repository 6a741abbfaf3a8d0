use Rattle.std.proofs.Common.{◌≡◌, ◌∙◌, ℕ, List, [], ◌∷◌, ◌++◌, codes, ap}
use Rattle.std.proofs.lemmas.Result.{on_ok_weaker}
use Rattle.json.specs.Json.{Json, string}
use Rattle.pci_json.specs.Lines.{word, value_in_base}
use Rattle.pci_json.specs.Members.{with_members, hex, json_count}
use Rattle.pci_json.proofs.Cuts.{second_there}
use Rattle.pci_json.proofs.Tokens.{two_members, hex_more}
use Rattle.pci_json.proofs.listing.push_header.Goals as goal

pub returns : goal.returns
returns g c =
    let line = c.args.line.now in
    let out = c.args.out.now in
    let kind = second_there 1 line c.split_word.result.1.now c.split_second.result.0.now c.split_second.result.1.now c.split_word.ensures.rest c.split_second.ensures.first c.split_second.ensures.rest in
    let vendor = second_there 3 line c.split_second.result.1.now c.split_second-2.result.0.now c.split_second-2.result.1.now kind.1 c.split_second-2.ensures.first c.split_second-2.ensures.rest in
    let device = second_there 5 line c.split_second-2.result.1.now c.split_second-3.result.0.now c.split_second-3.result.1.now vendor.1 c.split_second-3.ensures.first c.split_second-3.ensures.rest in
    let class = second_there 7 line c.split_second-3.result.1.now c.split_second-4.result.0.now c.split_second-4.result.1.now device.1 c.split_second-4.ensures.first c.split_second-4.ensures.rest in
    let command = second_there 9 line c.split_second-4.result.1.now c.split_second-5.result.0.now c.split_second-5.result.1.now class.1 c.split_second-5.ensures.first c.split_second-5.ensures.rest in
    let status = second_there 11 line c.split_second-5.result.1.now c.split_second-6.result.0.now c.split_second-6.result.1.now command.1 c.split_second-6.ensures.first c.split_second-6.ensures.rest in
    let one : List (List ℕ × Json) = (codes "slot", string (word 0 line)) ∷ [] in
    let two : List (List ℕ × Json) = (codes "type", json_count (value_in_base 10 (word 2 line))) ∷ [] in
    let slot_written : c.text.new.self ≡ with_members out one = c.in_ok-text.ensures ∙ ap (λ w. with_members out ((codes "slot", string w) ∷ [])) c.split_word.ensures.first in
    let kind_alone : c.number.new.self ≡ with_members c.text.new.self two =
    c.in_ok-number.ensures ∙ ap (λ n. with_members c.text.new.self ((codes "type", json_count n) ∷ [])) (c.value.ensures ∙ ap (value_in_base 10) kind.0) in
    let kind_written = two_members out c.text.new.self c.number.new.self one two slot_written kind_alone in
    let three : List (List ℕ × Json) = one ++ two in
    let vendor_written = hex_more out c.number.new.self c.hex.new.self three (codes "vendor") c.split_second-2.result.0.now (word 4 line) kind_written c.in_ok-hex.ensures vendor.0 in
    let four : List (List ℕ × Json) = three ++ (codes "vendor", hex (word 4 line)) ∷ [] in
    let device_written = hex_more out c.hex.new.self c.hex-2.new.self four (codes "device") c.split_second-3.result.0.now (word 6 line) vendor_written c.in_ok-hex-2.ensures device.0 in
    let five : List (List ℕ × Json) = four ++ (codes "device", hex (word 6 line)) ∷ [] in
    let class_written = hex_more out c.hex-2.new.self c.hex-3.new.self five (codes "class") c.split_second-4.result.0.now (word 8 line) device_written c.in_ok-hex-3.ensures class.0 in
    let six : List (List ℕ × Json) = five ++ (codes "class", hex (word 8 line)) ∷ [] in
    let command_written = hex_more out c.hex-3.new.self c.hex-4.new.self six (codes "command") c.split_second-5.result.0.now (word 10 line) class_written c.in_ok-hex-4.ensures command.0 in
    let seven : List (List ℕ × Json) = six ++ (codes "command", hex (word 10 line)) ∷ [] in
    on_ok_weaker c.hex-5.result
    (λ e. hex_more out c.hex-4.new.self c.hex-5.new.self seven (codes "status") c.split_second-6.result.0.now (word 12 line) command_written e status.0)
    c.hex-5.ensures
