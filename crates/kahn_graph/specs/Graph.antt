-- Believed. The picture of a network: a text in the language of Graphviz with a node for each instance and an edge for each channel,
-- from its writer to its reader, with what came of a run, where there was one. This project's own choice of what a picture shows.
use Rattle.std.specs.Prelude.{◌≡◌, ℕ, ◌+◌, List, [], ◌∷◌, ◌++◌, length, codes, decimal, map, Bool, if◌then◌else◌, Option, None, Some, option_map, slice_get}
use Rattle.std.specs.{Fmt.signed_decimal, List.concat}
use Rattle.kahn_streams.specs.declared.{answer.End.End, answer.Stream.Stream, tree.Kind.Kind, tree.Role.Role, tree.Argument.Argument, tree.Instance.Instance, tree.Name.Name, tree.Parameter.Parameter, tree.Process.Process, tree.Program.Program, sides.Side.Side}
use Rattle.kahn_streams.specs.declared.tree.Kind.TheVariants as K
use Rattle.kahn_streams.specs.{declared.tree.Role.TheVariants.Inner, declared.tree.Role.TheVariants.Input, declared.tree.Role.TheVariants.Output, Prints.process_prints, View.bytes_of, Made.IsMadeOf, Network.network_of, Network.kind_at, Network.role_at, Network.IsOnly, Network.IsWriter, Network.IsReader, Network.channel_names}
use Rattle.kahn_streams.specs.declared.tree.Argument.TheVariants as A
use Rattle.kahn_chain.specs.{declared.reason.Standing.Standing, Chain.IsRingMark, Chain.stands}
use Rattle.kahn_chain.specs.declared.reason.Standing.TheVariants as Stands
use Rattle.kahn_texts.specs.Shown.{spot_text}
use Rattle.kahn_graph.specs.Ran.{ended_text, carried, count_text, IsWaitMark}

-- ---- instances

-- a value by the name of its parameter, after what separates it from the value before
abbrev pub named_text : List ℕ → Parameter → List ℕ → List ℕ
named_text before q value = concat (before ∷ bytes_of q.name ∷ codes "=" ∷ value ∷ [])

-- the value arguments, the first after `before` and each further one after a comma; channels are shown by edges
abbrev pub values_text : List ℕ → List Parameter → List Argument → List ℕ
values_text before [] xs = []
values_text before (q ∷ qs) [] = []
values_text before (q ∷ qs) (A.Channel n ∷ rest) = values_text before qs rest
values_text before (q ∷ qs) (A.Number z at ∷ rest) = named_text before q (signed_decimal z) ++ values_text (codes ", ") qs rest
values_text before (q ∷ qs) (A.Logical b at ∷ rest) = named_text before q (if b then codes "true" else codes "false") ++ values_text (codes ", ") qs rest

-- the colour of a box by how its instance stands; it stays white where the instance waits, and without a run
abbrev pub colour_text : Option Standing → List ℕ
colour_text None = []
colour_text (Some Stands.Ended) = codes ", style=filled, fillcolor=lightgrey"
colour_text (Some (Stands.Waits c)) = []
colour_text (Some Stands.Faulted) = codes ", style=filled, fillcolor=salmon"
colour_text (Some Stands.More) = codes ", style=filled, fillcolor=palegreen"

-- where a name stands in the program text, as a line and a column
abbrev pub tip_text : List ℕ → Name → List ℕ
tip_text source n = concat (codes ", tooltip=\"" ∷ bytes_of n ∷ []) ++ (spot_text (codes " at ") source n.span.from ++ codes "\"")

-- the node of an instance of the program: its label has its number from 1, its process, the values below them, and how it ended
abbrev pub node_text : Program → Option End → ℕ → Process → List Argument → Bool → List ℕ
node_text t end i p arguments ring =
    concat (codes "  p" ∷ decimal i ∷ codes " [label=\"" ∷ decimal (i + 1) ∷ codes " " ∷ bytes_of p.name ∷ [])
    ++ (values_text (codes "\\n") p.parameters.items arguments
    ++ (ended_text t end
    ++ concat (codes "\"" ∷ (if process_prints p then codes ", peripheries=2" else []) ∷ colour_text (option_map stands end) ∷ (if ring then codes ", color=red" else []) ∷ [])))

-- the text is the node of instance i of the program
abbrev pub IsNode : Program → List ℕ → List End → ℕ → List ℕ → Type 0
IsNode t source ends i text =
    (p : Process) × (arguments : List Argument) × (x : Instance) × (ring : Bool)
    × IsMadeOf t i p arguments × (slice_get t.instances.items i ≡ Some x) × IsRingMark (network_of t) (map stands ends) i ring
    × (text ≡ node_text t (slice_get ends i) i p arguments ring ++ (tip_text source x.process ++ codes "];\n"))

-- ---- channels

-- where an edge begins or ends: at an instance, or at the channel's own mark where it is read or written from outside
abbrev pub place_text : ℕ → Option Side → List ℕ
place_text c None = concat (codes "c" ∷ decimal c ∷ [])
place_text c (Some s) = concat (codes "p" ∷ decimal s.instance ∷ [])

-- the mark of an input or of an output
abbrev pub mark_text : ℕ → Role → List ℕ
mark_text c Inner = []
mark_text c Input = concat (codes "  c" ∷ decimal c ∷ codes " [label=\"input\", shape=plaintext];\n" ∷ [])
mark_text c Output = concat (codes "  c" ∷ decimal c ∷ codes " [label=\"output\", shape=plaintext];\n" ∷ [])

-- a line for integers, a dashed one for logical values
abbrev pub style_text : Kind → List ℕ
style_text K.Integer = codes "solid"
style_text K.Logical = codes "dashed"

-- the name of the parameter at a side
abbrev pub IsPort : Program → Side → List ℕ → Type 0
IsPort t s name =
    (p : Process) × (arguments : List Argument) × (q : Parameter)
    × IsMadeOf t s.instance p arguments × (slice_get p.parameters.items s.parameter ≡ Some q) × (name ≡ bytes_of q.name)

-- that name as an attribute of an edge, where the edge has that side
abbrev pub IsPortText : Program → List ℕ → Option Side → List ℕ → Type 0
IsPortText t attribute None text = text ≡ []
IsPortText t attribute (Some s) text =
    (name : List ℕ) × IsPort t s name × (text ≡ concat (codes ", " ∷ attribute ∷ codes "=\"" ∷ name ∷ codes "\"" ∷ []))

-- the edge of a channel with that name, from its writer to its reader; its label has the name, and how many values it carried
abbrev pub edge_text : List Stream → ℕ → List ℕ → Kind → Option Side → Option Side → List ℕ
edge_text streams c name kind writer reader =
    concat (codes "  " ∷ place_text c writer ∷ codes " -> " ∷ place_text c reader ∷ codes " [label=\"" ∷ name ∷ count_text (carried streams c) ∷ codes "\", style=" ∷ style_text kind ∷ [])

-- the text is the edge of channel c of the program, after its mark
abbrev pub IsEdge : Program → List Stream → List End → ℕ → List ℕ → Type 0
IsEdge t streams ends c text =
    let n = network_of t in
    (name : List ℕ) × (writer : Option Side) × (reader : Option Side) × (tail : List ℕ) × (head : List ℕ) × (ring : Bool)
    × (slice_get (channel_names t) c ≡ Some name) × IsOnly (IsWriter n c) writer × IsOnly (IsReader n c) reader
    × IsPortText t (codes "taillabel") writer tail × IsPortText t (codes "headlabel") reader head × IsWaitMark n (map stands ends) c ring
    × (text ≡ mark_text c (role_at n c) ++ (edge_text streams c name (kind_at n c) writer reader ++ (tail ++ (head ++ concat ((if ring then codes ", color=red, penwidth=2" else []) ∷ codes "];\n" ∷ [])))))

-- ---- the whole

-- the texts are those of the items from i on, one for each
abbrev pub AreTexts : (ℕ → List ℕ → Type 0) → ℕ → List (List ℕ) → Type 0
AreTexts P i [] = Unit {0}
AreTexts P i (x ∷ xs) = P i x × AreTexts P (i + 1) xs

-- so many texts, which are those of the items from 0 on, one after another
abbrev pub IsAll : (ℕ → List ℕ → Type 0) → ℕ → List ℕ → Type 0
IsAll P count text = (texts : List (List ℕ)) × (length texts ≡ count) × AreTexts P 0 texts × (text ≡ concat texts)

abbrev pub opening_text : List ℕ
opening_text = codes "digraph network {\n  rankdir=LR;\n  node [shape=box];\n  edge [labelfontsize=9, labeldistance=1.5, labelangle=45];\n"

abbrev pub picture_end : List ℕ
picture_end = codes "}\n"

abbrev pub AreNodes : Program → List ℕ → List End → List ℕ → Type 0
AreNodes t source ends = IsAll (IsNode t source ends) (length (network_of t).instances)

abbrev pub AreEdges : Program → List Stream → List End → List ℕ → Type 0
AreEdges t streams ends = IsAll (IsEdge t streams ends) (length (network_of t).channels)

-- the text is the picture of the network of a program text, with these streams and these ends of a run, or none: the nodes of all instances, and
-- then the edges of all channels
abbrev pub IsPicture : Program → List ℕ → List Stream → List End → List ℕ → Type 0
IsPicture t source streams ends text = (nodes : List ℕ) × (edges : List ℕ) × AreNodes t source ends nodes × AreEdges t streams ends edges
    × (text ≡ opening_text ++ (nodes ++ (edges ++ picture_end)))
