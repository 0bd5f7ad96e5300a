mod DifferLaws
mod LineLaws
mod BlendLaws
mod EchoRowLaws
mod WeightLaws
mod WidthLaws
mod DescribeLaws
