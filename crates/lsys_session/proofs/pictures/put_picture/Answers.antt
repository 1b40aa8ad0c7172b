use Rattle.lsys_session.proofs.pictures.put_picture.Goals as goal

pub returns-in-Segments : goal.returns-in-Segments
returns-in-Segments g c = λ naming. rw c.in-Segments.is (c.segments_text.ensures.shows naming)

pub returns-in-Svg : goal.returns-in-Svg
returns-in-Svg g c = λ naming. rw c.in-Svg.is (c.svg_text.ensures.shows naming)
