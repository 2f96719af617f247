-- What a command's name and the text after it ask for.
use Rattle.std.specs.Prelude.{◌≡◌, ℕ, List, [], ◌∷◌, Option, None, Some}
use Rattle.std.specs.Fmt.{decimal}
use Rattle.std.specs.List.{join_with_byte}
use Rattle.sled_base.specs.Order.{Bytes}
use Rattle.sled_node.specs.Node.{WholeNode}
use Rattle.sled_pagecache.specs.State.{Token, pid_of, stamp_of}
use Rattle.sled_pagecache.specs.declared.pagecache.handles.call.Call.{Call}
use Rattle.sled_lines.specs.Words.{after_name}
use Rattle.sled_script.specs.Commands.{Asks, IsLeafOf, IsRootNumber, IsToken, root_word}
use Rattle.sled_script.specs.Pairs.{EncodePairs}

-- the name, and the words in the text after it, ask for the call
abbrev pub AsksBehind : Bytes → Option Bytes → Call → Type 0
AsksBehind name text call = (words : List Bytes) × Asks (name ∷ words) call × (text ≡ after_name words)

-- a text, if there is one, as the last of some words
abbrev pub at_the_end : Option Bytes → List Bytes
at_the_end None = []
at_the_end (Some rest) = rest ∷ []

-- the text is the two words of a token, followed by a space and the rest, if there is a rest
pub record BeginsWithToken (text : Option Bytes) (old : Token) (rest : Option Bytes) : Type 0 where
  pub token : IsToken old
  pub joined : text ≡ after_name (decimal (pid_of old) ∷ decimal (stamp_of old) ∷ at_the_end rest)

-- the words in the text encode the pairs of the leaf
abbrev pub EncodeLeaf : Option Bytes → WholeNode → Type 0
EncodeLeaf text node = (pairs : List (Bytes × Bytes)) × IsLeafOf pairs node × EncodePairs text pairs

-- the text is two root pages, each of which may be none, with a single space between them
pub record EncodeRoots (text : Bytes) (old new : Option ℕ) : Type 0 where
  pub numbers : IsRootNumber old × IsRootNumber new
  pub joined : text ≡ join_with_byte 32 (root_word old ∷ root_word new ∷ [])
