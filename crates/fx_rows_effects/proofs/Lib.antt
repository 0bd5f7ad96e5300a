mod SmallWindows
mod Renders
mod Uses
