use Rattle.curve_loads.proofs.Fronts.{front-held, found-held, finds-held}
use Rattle.curve_loads.proofs.laws.lesser_lists_are_fronts.Goals as goal

pub returns-clause-front : goal.returns-clause-front
returns-clause-front c = λ weight limit limit' watermark watermark' steps l m. front-held limit limit' watermark watermark' l m weight steps

pub returns-clause-found : goal.returns-clause-found
returns-clause-found c = λ weight limit limit' watermark watermark' steps l m e h. found-held limit limit' watermark watermark' l m weight steps e h

pub returns-clause-finds : goal.returns-clause-finds
returns-clause-finds c = λ weight limit limit' watermark watermark' steps l m. finds-held limit limit' watermark watermark' l m weight steps
