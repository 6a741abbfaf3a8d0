-- Which texts XML reads as content.
use Rattle.std.proofs.Common.{ℕ, Bool, List, [], ◌++◌, sym, subst}
use Rattle.std.proofs.lemmas.List.{append_assoc, append-nil}
use Rattle.pci_picture.specs.Xml.{is_plain_character, is_unquoted, AreCharacters, no_character, character, entity, AreAttributes, no_attribute, one_attribute, attribute, element, empty_element, IsXmlName, IsContent, nothing, text, one_element, one_empty}

-- characters behind characters are characters
pub characters_append : (allowed : ℕ → Bool) (a b : List ℕ) → AreCharacters allowed a → AreCharacters allowed b
    → AreCharacters allowed (a ++ b)
characters_append allowed _ b no_character h = h
characters_append allowed _ b (character c rest ok r) h =
    character c (rest ++ b) ok (characters_append allowed rest b r h)
characters_append allowed _ b (entity e rest is r) h =
    subst (AreCharacters allowed) (sym (append_assoc e rest b)) (entity e (rest ++ b) is (characters_append allowed rest b r h))

-- attributes behind attributes are attributes
pub attributes_append : (a b : List ℕ) → AreAttributes a → AreAttributes b → AreAttributes (a ++ b)
attributes_append _ b no_attribute h = h
attributes_append _ b (one_attribute name value rest named lawful r) h =
    subst AreAttributes (sym (append_assoc (attribute name value) rest b))
    (one_attribute name value (rest ++ b) named lawful (attributes_append rest b r h))

-- content behind content is content
pub content_append : (a b : List ℕ) → IsContent a → IsContent b → IsContent (a ++ b)
content_append _ b nothing h = h
content_append _ b (text cs rest ok r) h =
    subst IsContent (sym (append_assoc cs rest b)) (text cs (rest ++ b) ok (content_append rest b r h))
content_append _ b (one_element name attributes content rest named lawful closed r) h =
    subst IsContent (sym (append_assoc (element name attributes content) rest b))
    (one_element name attributes content (rest ++ b) named lawful closed (content_append rest b r h))
content_append _ b (one_empty name attributes rest named lawful r) h =
    subst IsContent (sym (append_assoc (empty_element name attributes) rest b))
    (one_empty name attributes (rest ++ b) named lawful (content_append rest b r h))

-- characters alone
pub content_of : (a : List ℕ) → AreCharacters is_plain_character a → IsContent a
content_of a h = subst IsContent (append-nil a) (text a [] h nothing)

-- one element alone
pub element_content : (name attributes content : List ℕ) → IsXmlName name → AreAttributes attributes → IsContent content
    → IsContent (element name attributes content)
element_content name attributes content named lawful closed =
    subst IsContent (append-nil (element name attributes content)) (one_element name attributes content [] named lawful closed nothing)

-- one attribute alone
pub attribute_lawful : (name value : List ℕ) → IsXmlName name → AreCharacters is_unquoted value
    → AreAttributes (attribute name value)
attribute_lawful name value named lawful =
    subst AreAttributes (append-nil (attribute name value)) (one_attribute name value [] named lawful no_attribute)
