use Rattle.head_parse.proofs.HeadLaws.{under-map_of}
use Rattle.head_parse.proofs.laws.maps_keep_the_values_of_lines.Goals as goal

pub returns : goal.returns
returns c = under-map_of
