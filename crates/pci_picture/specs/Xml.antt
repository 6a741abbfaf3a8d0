-- What XML reads as the content of an element (XML 1.0, 2.1, 2.4, 3.1), as far as a picture needs it.
use Rattle.std.specs.Prelude.{◌≡◌, ℕ, Bool, ◌==◌, ◌&&◌, ◌||◌, not, IsTrue, List, [], ◌∷◌, ◌++◌, codes, nat_le}
use Rattle.std.specs.List.{list_all}

-- a character that stands for itself: neither `<` nor `&` (2.4)
abbrev pub is_plain_character : ℕ → Bool
is_plain_character c = not (c == 60) && not (c == 38)

-- a character that an attribute's value in quotes may have: also no `"` (2.3)
abbrev pub is_unquoted : ℕ → Bool
is_unquoted c = is_plain_character c && not (c == 34)

-- a character of a name: a letter or `-`
abbrev pub is_name_character : ℕ → Bool
is_name_character c =
    (nat_le 97 c && nat_le c 122) || (nat_le 65 c && nat_le c 90) || (c == 45)

abbrev pub IsXmlName : List ℕ → Type 0
IsXmlName name = IsTrue (list_all is_name_character name)

-- the entities that a picture has (4.6), and the apostrophe by its number
pub data IsEntity : List ℕ → Type 0 where
  ampersand : IsEntity (codes "&amp;")
  less : IsEntity (codes "&lt;")
  greater : IsEntity (codes "&gt;")
  quote : IsEntity (codes "&quot;")
  apostrophe : IsEntity (codes "&#x27;")

-- characters and entities; `is_allowed` says which characters may stand for themselves
pub data AreCharacters (is_allowed : ℕ → Bool) : List ℕ → Type 0 where
  no_character : AreCharacters is_allowed []
  character : (c : ℕ) (rest : List ℕ) → IsTrue (is_allowed c)
      → AreCharacters is_allowed rest → AreCharacters is_allowed (c ∷ rest)
  entity : (e rest : List ℕ) → IsEntity e
      → AreCharacters is_allowed rest → AreCharacters is_allowed (e ++ rest)

-- an attribute with a blank before it: ` name="value"`
abbrev pub attribute : List ℕ → List ℕ → List ℕ
attribute name value = 32 ∷ (name ++ (61 ∷ 34 ∷ (value ++ (34 ∷ []))))

pub data AreAttributes : List ℕ → Type 0 where
  no_attribute : AreAttributes []
  one_attribute : (name value rest : List ℕ) → IsXmlName name → AreCharacters is_unquoted value
      → AreAttributes rest → AreAttributes (attribute name value ++ rest)

-- an element with its start tag, content and end tag, and one without content
abbrev pub element : List ℕ → List ℕ → List ℕ → List ℕ
element name attributes content =
    60 ∷ (name ++ (attributes ++ (62 ∷ (content ++ (60 ∷ 47 ∷ (name ++ (62 ∷ [])))))))

abbrev pub empty_element : List ℕ → List ℕ → List ℕ
empty_element name attributes = 60 ∷ (name ++ (attributes ++ (47 ∷ 62 ∷ [])))

-- characters, and elements that are closed
pub data IsContent : List ℕ → Type 0 where
  nothing : IsContent []
  text : (characters rest : List ℕ) → AreCharacters is_plain_character characters
      → IsContent rest → IsContent (characters ++ rest)
  one_element : (name attributes content rest : List ℕ) → IsXmlName name → AreAttributes attributes
      → IsContent content → IsContent rest → IsContent (element name attributes content ++ rest)
  one_empty : (name attributes rest : List ℕ) → IsXmlName name → AreAttributes attributes
      → IsContent rest → IsContent (empty_element name attributes ++ rest)

-- one element, and a line feed behind it
pub record IsDocument (document : List ℕ) : Type 0 where
  pub name : List ℕ
  pub attributes : List ℕ
  pub content : List ℕ
  pub named : IsXmlName name
  pub lawful : AreAttributes attributes
  pub closed : IsContent content
  pub says : document ≡ element name attributes content ++ 10 ∷ []
